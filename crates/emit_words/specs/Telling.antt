-- What the maps and a key say of a pattern's word.
use Rattle.std.specs.Prelude.{Option as Optional, Some, None}
use Rattle.std.specs.Prelude.{◌≡◌, false, get_or}
use Rattle.std.proofs.Math.Path.{refl, sym, ap}
use Rattle.std.proofs.Common.{◌∙◌}
use Rattle.std.proofs.Math.Bool.{true}
use mathlib.Core.List.{List, [], ◌∷◌}
use Rattle.std.proofs.Math.Option.{Option, none, some}
use Prim.Native.Nat.{ℕ, suc, ◌+◌, ◌<◌}
use native.Mathlib.Omega.{arith}
use borrow.Author.Tests.{eq-eqb, ne_eqb}
use Rattle.std.proofs.Math.ListN.{length}
use Rattle.definition.specs.Pack.{Node, no_node}
use Rattle.definition.specs.Verdict.{value_of}
use Rattle.definition.specs.Store.{variable_head, is_variable}
use Rattle.emission.specs.Line.{Word, defined}
use Rattle.emission.specs.State.{Emitter}
use Rattle.emission.specs.Words.{pattern_of, word_of}
use Rattle.store.specs.Words.{key_of}
use Rattle.store.specs.Stored.{nodes}
use Rattle.emit_theory.specs.Said.{count-definitions}
use Rattle.emit_maps.specs.Holds.{recalled, Looks}
use Rattle.emit_lines.specs.Words.{word_in, word_constant, word_defined, word-variable}
use Rattle.emit_state.specs.Places.{maps_of}
use Rattle.emit_state.specs.Holding.{lends, World, Ready}
use Rattle.emit_state.specs.Counts.{definitions_few, variables_few}
use Rattle.emit_state.specs.Lines.{text_ends}
use Rattle.emit_state.specs.declared.places.Places.{Places}
use Rattle.emit_state.specs.declared.standing.Standing.{Standing}
use Rattle.emit_words.specs.Spelling.{pattern_is, stored_is}

module _ (pack work words proof : List ℕ) (l : Places) (m : Standing) (w : World) (e : Emitter) (R : Ready (lends pack work words proof) l m w e) where
  -- a case variable's word
  module _ (p : ℕ) (low : p < length (nodes words m.store)) where
    -- its number is small
    name_few : (k : ℕ) → value_of p e.undone.names ≡ some k → k < 16777216
    name_few k z =
        let a = (R.sound.names p k z).there in
        let b = variables_few w.setting.pack w.setting.name e.undone.lines in
        let c = text_ends (lends pack work words proof) l m w e R.holding in
        omega (arith, a, b, c, R.holding.ends, R.holding.text_few)

    -- a definition's number is small
    def_few : (n : ℕ) → value_of p e.undone.defs ≡ some n → n < 16777216
    def_few n z =
        let a = (R.sound.defs p n z).there in
        let b = definitions_few w.setting.pack w.setting.name e.undone.lines in
        let c = text_ends (lends pack work words proof) l m w e R.holding in
        let d = count-definitions e.undone.lines in
        omega (arith, a, b, c, d, R.holding.ends, R.holding.text_few)

    -- what the maps say
    looked_name : (r : Optional ℕ) → Looks work (maps_of l) 3 p r → recalled r ≡ value_of p e.undone.names
    looked_name r L = L.value e.undone.names R.holding.maps.names

    -- the definitions
    looked_def : (r : Optional ℕ) → Looks work (maps_of l) 2 p r → recalled r ≡ value_of p e.undone.defs
    looked_def r L = L.value e.undone.defs R.holding.maps.defs

    -- a number that was found is small
    pub name-fits : (r : Optional ℕ) (k : ℕ) → Looks work (maps_of l) 3 p r → r ≡ Some k → k < 16777216
    name-fits r k L q = name_few k (sym (looked_name r L) ∙ ap recalled q)

    -- a definition's too
    pub def_fits : (r : Optional ℕ) (n : ℕ) → Looks work (maps_of l) 2 p r → r ≡ Some n → n < 16777216
    def_fits r n L q = def_few n (sym (looked_def r L) ∙ ap recalled q)

    -- it has no name
    pub no_name : (r : Optional ℕ) → Looks work (maps_of l) 3 p r → r ≡ None → value_of p e.undone.names ≡ none
    no_name r L q = sym (looked_name r L) ∙ ap recalled q

    -- it has one
    pub spelled-name : (r : Optional ℕ) (k : ℕ) → Looks work (maps_of l) 3 p r → r ≡ Some k → some (word_in (2147483648 + 1 + k)) ≡ word_of e p
    unfolding word_of
    spelled-name r k L q =
        let z : value_of p e.undone.names ≡ some k = sym (looked_name r L) ∙ ap recalled q in
        let i : 2147483648 + 1 + k ≡ 2147483648 + suc k = omega arith in
        ap (λ (n : ℕ). some (word_in n)) i ∙ ap some (word-variable (suc k)) ∙ sym (rw (z, word_of) refl)

    -- the key of p
    module _ (key : List ℕ) (k : key ≡ key_of (get_or (nodes words m.store) p no_node)) (u : value_of p e.undone.names ≡ none) where
      -- its head
      head_is : get_or key 0 0 ≡ (pattern_of e p).head
      head_is = ap (λ (xs : List ℕ). get_or xs 0 0) k ∙ ap (λ (n : Node). n.head) (pattern_is pack work words proof l m w e R p)

      -- its arguments
      args_are : length key ≡ suc (length (pattern_of e p).args)
      args_are = ap length k ∙ ap (λ (n : Node). suc (length n.args)) (pattern_is pack work words proof l m w e R p)

      -- it is L
      pub spelled_L : get_or key 0 0 ≡ variable_head → some (word_in 2147483648) ≡ word_of e p
      unfolding word_of is_variable
      spelled_L h =
          let v : is_variable (pattern_of e p) ≡ true = eq-eqb (pattern_of e p).head variable_head (sym head_is ∙ h) in
          ap some (word-variable 0) ∙ sym (rw (u, v, word_of) refl)

      module _ (h : get_or key 0 0 ≡ variable_head → ⊥) where
        -- it is no variable
        applied : is_variable (pattern_of e p) ≡ false
        unfolding is_variable
        applied = ne_eqb (pattern_of e p).head variable_head (λ z. h (head_is ∙ z))

        -- it is a constant
        pub spelled_constant : length key ≡ 1 → some (word_in (get_or key 0 0)) ≡ word_of e p
        unfolding word_of
        spelled_constant o =
            let a : (pattern_of e p).args ≡ [] = empty (pattern_of e p).args (omega (arith, args_are, o)) in
            let small = (R.sound.sorted p (omega (arith, low, stored_is pack work words proof l m w e R))).head applied in
            ap (λ (n : ℕ). some (word_in n)) head_is ∙ ap some (word_constant (pattern_of e p).head (omega (arith, small, R.holding.proper.few.symbols))) ∙ sym (rw (u, applied, a, word_of) refl)
          where
            empty : (xs : List ℕ) → length xs ≡ 0 → xs ≡ []
            empty [] z = refl
            empty (x ∷ xs) z = absurd (omega arith)

        module _ (many : length key ≡ 1 → ⊥) where
          -- it is a compound term, which its definition alone gives a word
          compound : (r : Option ℕ) → value_of p e.undone.defs ≡ r → word_of e p ≡ elim r as (λ _. Option Word) [ none ↦ none | some n ↦ some (defined n) ]
          unfolding word_of
          compound r z = by (pattern_of e p).args refl
            where
              by : (xs : List ℕ) → (pattern_of e p).args ≡ xs → word_of e p ≡ elim r as (λ _. Option Word) [ none ↦ none | some n ↦ some (defined n) ]
              by [] a = absurd (many (omega (arith, args_are, ap length a)))
              by (x ∷ xs) a = rw (u, applied, a, z, word_of) refl

          -- it is defined
          pub spelled_defined : (r : Optional ℕ) (n : ℕ) → Looks work (maps_of l) 2 p r → r ≡ Some n → some (word_in (1073741824 + n)) ≡ word_of e p
          spelled_defined r n L q =
              let z : value_of p e.undone.defs ≡ some n = sym (looked_def r L) ∙ ap recalled q in
              ap some (word_defined n (omega (arith, def_few n z))) ∙ sym (compound (some n) z)

          -- it is not
          pub spelled-nothing : (r : Optional ℕ) → Looks work (maps_of l) 2 p r → r ≡ None → none ≡ word_of e p
          spelled-nothing r L q = sym (compound none (sym (looked_def r L) ∙ ap recalled q))
