-- What is left of the bytes while their records are read.
use Rattle.std.specs.Prelude.{Option, Ok}
use Rattle.std.specs.Prelude.{◌≡◌, List, ℕ, ◌+◌, ◌-◌, ◌≤◌, ◌<◌, length, drop}
use Rattle.std.proofs.Common.{sym, ap, subst, ◌∙◌, arith, length-drop, drop-drop}
use Rattle.base.specs.Outside.{outside_none, outside_then}
use Rattle.pack_tables.specs.Header.{HeadsFirst}
use Rattle.pack_tables.specs.declared.header.Header.{Header}
use Rattle.pack_tables.specs.declared.catalog.Catalog.{Catalog}
use Rattle.pack_reader.specs.Marks.{Beyond}
use Rattle.pack_reader.specs.Walk.{Walking, Meeting, Goes}
use Rattle.pack_reader.specs.Parsed.{tables_of, Parses, at-end}

-- the tail is the bytes' last part, behind a record of the kind `last`, and what is ahead of it is in the tables
pub record Ahead (bytes tail work work' : List ℕ) (c : Catalog) (last : ℕ) : Type 0 where
  pub inside : length tail ≤ length bytes
  pub tail_is : tail ≡ drop (length bytes - length tail) bytes
  pub walking : Walking bytes work' c (length bytes - length tail) last
  pub beyond : Beyond work work' c

-- all of it, ahead of the first record
pub ahead-first : (bytes work : List ℕ) (c : Catalog) → Walking bytes work c 0 0 → Ahead bytes bytes work work c 0
ahead-first bytes work c W =
    let z : length bytes - length bytes ≡ 0 = omega arith in
    record { inside = omega arith; tail_is = sym (ap (λ (n : ℕ). drop n bytes) z); walking = subst (λ (n : ℕ). Walking bytes work c n 0) (sym z) W; beyond = outside_none _ _ _ }

module _ (bytes tail work mid work' : List ℕ) (c : Catalog) (last : ℕ) (A : Ahead bytes tail work mid c last) where
  abbrev at : ℕ
  at = length bytes - length tail

  -- a record was taken up: less is left
  pub ahead-next : (size kind : ℕ) → Goes bytes mid work' c at (Ok (size, kind)) → (rest : List ℕ) → rest ≡ drop size tail → Ahead bytes rest work work' c kind × (length rest < length tail)
  ahead-next size kind g rest e =
      let l : length rest ≡ length tail - size = ap length e ∙ length-drop size tail in
      let i : at + size ≤ length bytes = g.0.inside in
      let k : length bytes - length rest ≡ at + size = omega (arith, l, i, A.inside) in
      let f : rest ≡ drop (at + size) bytes = e ∙ ap (drop size) A.tail_is ∙ drop-drop size at bytes in (
        record {
          inside = omega (arith, l, A.inside);
          tail_is = f ∙ ap (λ (n : ℕ). drop n bytes) (sym k);
          walking = subst (λ (n : ℕ). Walking bytes work' c n kind) (sym k) g.0;
          beyond = outside_then _ _ _ _ _ A.beyond g.1;
        },
        omega (arith, l, i, g.2, A.inside),
      )

  -- within what is left
  pub ahead_within : (size kind : ℕ) → Goes bytes mid work' c at (Ok (size, kind)) → size ≤ length tail
  ahead_within size kind g = omega (arith, g.0.inside, A.inside)

  -- where something is left, the header of the tail is met
  pub ahead-met : (h : Option Header) → 0 < length tail → HeadsFirst tail last h → Meeting bytes mid c at h
  ahead-met h some H = record { last = last; walking = A.walking; some_left = omega (arith, A.inside); heads = subst (λ (xs : List ℕ). HeadsFirst xs last h) A.tail_is H }

-- nothing is left
pub ahead-end : (bytes tail work work' : List ℕ) (last : ℕ) → Ahead bytes tail work work' (tables_of (length bytes)) last → (0 < length tail → ⊥) → Parses bytes work work' (Ok tt)
ahead-end bytes tail work work' last A h = at-end bytes work work' (length bytes - length tail) last A.walking A.beyond (omega (arith, h, A.inside))
