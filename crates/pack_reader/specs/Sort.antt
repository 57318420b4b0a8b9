-- What taking up a sort answers.
use Rattle.std.specs.Prelude.{Ok, Err}
use Rattle.std.specs.Prelude.{◌≡◌, true, false, List, [], ℕ, ◌+◌, ◌≤◌, ◌<◌, length}
use Rattle.std.proofs.Common.{sym, ap, ◌∙◌, subst, arith, leb-true}
use Rattle.definition.specs.Test.{and_parts}
use Rattle.definition.specs.Pack.{Pack, with_sort}
use Rattle.definition.specs.Frame.{good}
use Rattle.definition.specs.Theory.{is_name, take_sort}
use Rattle.definition.proofs.Laws.DecideTheory.{sort-over, sort_misnamed, sort_again, sort-taken}
use Rattle.pack_tables.specs.Place.{Place, key_at}
use Rattle.pack_tables.specs.Catalog.{records_of, EnteringIn, EntersIn}
use Rattle.pack_tables.specs.declared.region.Entered.TheVariants.{New, Old}
use Rattle.pack_tables.specs.declared.catalog.Catalog.{Catalog}
use Rattle.pack_read.specs.Reads.{Reads, listed_at, listed-length, read_sort}
use Rattle.pack_reader.specs.Taking.{Reading, Whole, behind, Takes, key-at, may_enter, entered_takes, refused-takes, Names, names_there, names_not_there}
use Rattle.pack_reader.specs.declared.taken.Fault.TheVariants.{Bad, Over}

-- a name has a byte
pub name_some : (n : List ℕ) → is_name n ≡ true → 0 < length n
unfolding is_name
name_some n e = leb-true 1 (length n) (and_parts _ _ (and_parts _ _ (and_parts _ _ e).0).0).0

module _ (bytes work body : List ℕ) (c : Catalog) (at : ℕ) (R : Reading bytes work c at) (W : Whole bytes body at) where
  abbrev place : Place
  place = record { at = at; from = at + 6 }

  abbrev rs : ℕ → List Place
  rs = records_of work c

  key_is : key_at bytes place ≡ body
  key_is = let e : at + 6 ≡ at + 6 + 0 = omega arith in ap (λ (f : ℕ). key_at bytes (record { at = at; from = f })) e ∙ key-at bytes body at 0 W (omega arith)

  names : (P : Pack) → Reads bytes rs P → Names bytes P.sorts (rs 0)
  names P r = record { many = listed-length _ _ _ _ r.sorts; each = λ i h. listed_at _ _ _ _ [] i r.sorts h }

  pub many-sorts : 256 ≤ length (rs 0) → Takes bytes work work c 0 (behind at body) (λ P. take_sort P body) (Err Over)
  many-sorts h P r = sort-over P body (omega (arith, listed-length _ _ _ _ r.sorts))

  module _ (few : length (rs 0) < 256) where
    few_sorts : (P : Pack) → Reads bytes rs P → length P.sorts < 256
    few_sorts P r = omega (arith, listed-length _ _ _ _ r.sorts)

    pub bad_sort : is_name body ≡ false → Takes bytes work work c 0 (behind at body) (λ P. take_sort P body) (Err Bad)
    bad_sort e P r = sort_misnamed P body (few_sorts P r) e

    module _ (named : is_name body ≡ true) where
      pub enter_sort : EnteringIn bytes work c 0 place
      enter_sort = let e : at + 6 + 0 ≡ at + 6 = omega arith in subst (λ (f : ℕ). EnteringIn bytes work c 0 (record { at = at; from = f })) e (may_enter bytes work body c at 0 0 R W (name_some body named) (omega arith) (omega arith) (λ h. omega arith))

      pub new-sort : (work' : List ℕ) → EntersIn bytes work work' c 0 place New → Takes bytes work work' c 0 (behind at body) (λ P. take_sort P body) (Ok tt)
      new-sort work' =
          entered_takes bytes work work' c at (behind at body) 0 place (λ P. take_sort P body) (λ P. with_sort P (key_at bytes place)) R (omega (arith, name_some body named))
          (λ P r n. sort-taken P body (few_sorts P r) named (names_not_there bytes P.sorts (rs 0) body (names P r) (λ f. n (f.0, f.1, f.2 ∙ sym key_is))) ∙ ap (λ (b : List ℕ). good (with_sort P b)) (sym key_is))
          (λ P r M. read_sort bytes rs (records_of work' c) P r place M)

      pub old-sort : (work' : List ℕ) → EntersIn bytes work work' c 0 place Old → Takes bytes work work' c 0 (behind at body) (λ P. take_sort P body) (Err Bad)
      old-sort work' =
          refused-takes bytes work work' c (behind at body) 0 place (λ P. take_sort P body)
          (λ P r f. sort_again P body (few_sorts P r) named (names_there bytes P.sorts (rs 0) body (names P r) (f.0, f.1, f.2 ∙ key_is)))
