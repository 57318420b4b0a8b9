-- Where the words up to the tables' end are as they were, so are the records.
use Rattle.std.specs.Prelude.{◌≡◌, refl, List, ℕ, ◌+◌, ◌*◌, ◌<◌, length, get_or}
use Rattle.std.proofs.Common.{sym, subst, ◌∙◌, arith}
use Rattle.std.proofs.Math.Path.{ap}
use Rattle.base.specs.Part.{part_same}
use Rattle.pack_tables.specs.Region.{size_for, places, Kept, Keyed}
use Rattle.pack_tables.specs.Catalog.{cap_of, start_of, region_of, records_of, Fits, Cataloged, region_inside}
use Rattle.pack_tables.specs.declared.catalog.Catalog.{Catalog}

-- where the tables end
abbrev pub end_of : Catalog → ℕ
end_of c = c.at + 9 * size_for c.cap

-- the words up to there are as they were
pub record Same (work work' : List ℕ) (c : Catalog) : Type 0 where
  pub long : length work' ≡ length work
  pub words : (i : ℕ) → i < end_of c → get_or work' i 0 ≡ get_or work i 0

-- nothing was written
pub same_none : (work : List ℕ) (c : Catalog) → Same work work c
same_none work c = record { long = refl; words = λ i l. refl }

-- one after the other
pub same_then : (work work' work'' : List ℕ) (c : Catalog) → Same work work' c → Same work' work'' c → Same work work'' c
same_then work work' work'' c A B = record { long = B.long ∙ A.long; words = λ i l. B.words i l ∙ A.words i l }

module _ (work work' : List ℕ) (c : Catalog) (S : Same work work' c) (F : Fits work c) where
  pub same-fits : Fits work' c
  same-fits = record { small = F.small; fits = omega (arith, F.fits, S.long) }

  -- each kind's region is as it was
  pub same_region : (k : ℕ) → k < 9 → region_of work' c k ≡ region_of work c k
  unfolding region_of
  same_region k h =
      let i = region_inside c k h in
      part_same (start_of c k) (size_for (cap_of c k)) work' work (omega (arith, F.fits, S.long)) (omega (arith, F.fits)) (λ j l. S.words (start_of c k + j) (omega arith))

  -- and its records
  pub same-records : (k : ℕ) → k < 9 → records_of work' c k ≡ records_of work c k
  unfolding records_of
  same-records k h = ap places (same_region k h)

-- the tables hold what they held
pub same_cataloged : (bytes work work' : List ℕ) (c : Catalog) → Same work work' c → Cataloged bytes work c → Cataloged bytes work' c
same_cataloged bytes work work' c S C = record {
  fits = same-fits work work' c S C.fits;
  kept = λ k h. subst (λ (r : List ℕ). Kept bytes r (cap_of c k)) (sym (same_region work work' c S C.fits k h)) (C.kept k h);
  keyed = λ k h e. subst (λ (r : List ℕ). Keyed bytes r (cap_of c k)) (sym (same_region work work' c S C.fits k h)) (C.keyed k h e);
}
