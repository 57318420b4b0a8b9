-- What a node that is taken has at the position is marked, if it is a variable.
use Rattle.std.specs.Prelude.{◌≡◌, true, false, ◌||◌, eqb, ltb}
use Rattle.std.proofs.Math.Path.{sym, ap}
use Rattle.std.proofs.Common.{◌∙◌, arith}
use mathlib.Core.List.{List}
use Prim.Native.Nat.{ℕ, ◌+◌, ◌-◌, ◌≤◌, ◌<◌}
use Rattle.std.proofs.Math.Decide.{ℕ_discrete}
use borrow.Author.Tests.{eq-eqb, ne_eqb}
use Rattle.std.proofs.Math.ListN.{length, get_or, set}
use Rattle.std.proofs.Math.Seq.{get_or-set_same, get_or-set_other}
use Rattle.definition.specs.Test.{or_right, or-none}
use Rattle.definition.specs.Pack.{Node, no_node}
use Rattle.definition.specs.Store.{variable_head, is_variable, below}
use Rattle.definition.proofs.Laws.Grow.{below_at}
use Rattle.base.specs.Outside.{Outside, outside_none, outside_set}
use Rattle.base.specs.Part.{part, part-set}
use Rattle.theory.specs.Copies.Terms.{below-applied}
use Rattle.theory.specs.Walks.Matching.{number_of}
use Rattle.theory.specs.Walks.Stands.{hits, hits-other, hits_short, hits-applied, hits-variable}
use Rattle.store.specs.Stored.{nodes}
use Rattle.store.specs.declared.nodes.Store.{Store}
use Rattle.memo.specs.Lent.{lent, lent_long}
use Rattle.memo.specs.declared.memo.Memo.{Memo}
use Rattle.emit_open.specs.declared.open.Opening.{Opening}
use Rattle.emit_open.specs.Held.{marked_in, Low, Given}

-- ---- `note`: what it asks
pub record Notable (work words : List ℕ) (l : Opening) (st : Store) (q c i : ℕ) : Type 0 where
  pub met : Memo
  pub given : Given work words l st met
  pub pattern : q < length (nodes words st)
  pub applied : is_variable (get_or (nodes words st) q no_node) ≡ false
  pub bound : (k : ℕ) → hits (nodes words st) c i q k ≡ true → k < l.end - l.marks

-- and promises: what the node has is marked besides
pub record Notes (work work' words : List ℕ) (l : Opening) (st : Store) (q c i : ℕ) : Type 0 where
  pub outside : Outside l.marks l.end work work'
  pub low : Low work l → Low work' l
  pub marked : (k : ℕ) → marked_in work' l k ≡ (marked_in work l k || hits (nodes words st) c i q k)

module _ (work words : List ℕ) (l : Opening) (st : Store) (q c i : ℕ) (Q : Notable work words l st q c i) where
  -- the store's nodes, and the arguments
  abbrev s : List Node
  s = nodes words st

  abbrev args : List ℕ
  args = (get_or s q no_node).args

  -- it has none
  notes-none : ((k : ℕ) → hits s c i q k ≡ false) → Notes work work words l st q c i
  notes-none h = record { outside = outside_none l.marks l.end work; low = λ z. z; marked = λ k. sym (or-none (marked_in work l k) (hits s c i q k) (h k)) }

  -- its head is another
  pub notes-other : (head : ℕ) → head ≡ (get_or s q no_node).head → (head ≡ c → ⊥) → Notes work work words l st q c i
  notes-other head e d = notes-none (λ k. hits-other s c i q k (λ z. d (e ∙ z)))

  -- what is below it are its arguments
  kids : below (get_or s q no_node) ≡ args
  kids = below-applied (get_or s q no_node) Q.applied

  -- it has too few arguments
  pub notes_short : (k : ℕ) → k ≡ length args → k ≤ i → Notes work work words l st q c i
  notes_short k e h = notes-none (λ j. hits_short s c i q j (omega (arith, e, ap (λ (xs : List ℕ). length xs) kids)))

  module _ (head : ℕ) (e : head ≡ (get_or s q no_node).head) (is_c : head ≡ c) (k : ℕ) (a : k ≡ length args) (more : i < k) where
    -- there is such an argument
    pub notes_there : i < length args
    notes_there = omega (arith, a)

    module _ (x : ℕ) (is_x : x ≡ get_or args i 0) where
      -- among what is below the node
      place : i < length (below (get_or s q no_node))
      place = omega (arith, notes_there, ap (λ (xs : List ℕ). length xs) kids)

      same : x ≡ get_or (below (get_or s q no_node)) i 0
      same = is_x ∙ sym (ap (λ (xs : List ℕ). get_or xs i 0) kids)

      -- it is a node
      pub notes-node : x < length s
      notes-node = omega (arith, below_at q (below (get_or s q no_node)) i (Q.given.patterns.earlier q Q.pattern) place, same, Q.pattern)

      module _ (h : ℕ) (is-h : h ≡ (get_or s x no_node).head) where
        -- an application
        pub notes-applied : (h ≡ 4294967294 → ⊥) → Notes work work words l st q c i
        unfolding is_variable
        notes-applied d = notes-none (λ j. hits-applied s c i Q.given.patterns.earlier q x (sym e ∙ is_c) place same notes-node j (ne_eqb (get_or s x no_node).head variable_head (λ z. d (is-h ∙ z))))

        module _ (is-v : h ≡ 4294967294) where
          -- a variable
          variable : is_variable (get_or s x no_node) ≡ true
          unfolding is_variable
          variable = eq-eqb (get_or s x no_node).head variable_head (sym is-h ∙ is-v)

          -- it has a number
          pub notes_number : 0 < length (get_or s x no_node).args
          notes_number = omega (arith, Q.given.patterns.twos x notes-node variable)

          -- what it is
          hit : (j : ℕ) → hits s c i q j ≡ eqb (number_of s x) j
          hit j = hits-variable s c i Q.given.patterns.earlier q x (sym e ∙ is_c) place same notes-node j variable

          module _ (v : ℕ) (is_number : v ≡ number_of s x) where
            -- the variable has a mark
            bound : v < l.end - l.marks
            bound = Q.bound v (hit v ∙ eq-eqb (number_of s x) v (sym is_number))

            pub notes_inside : l.marks + v < length work
            notes_inside = omega (arith, bound, Q.given.order, Q.given.fits)

            -- it is marked
            pub notes-marked : Notes work (set work (l.marks + v) 1) words l st q c i
            unfolding marked_in part
            notes-marked =
                let zs : List ℕ = lent l.marks l.end work in
                let long : length zs ≡ l.end - l.marks = lent_long l.marks l.end work Q.given.order Q.given.fits in
                let new : lent l.marks l.end (set work (l.marks + v) 1) ≡ set zs v 1 = part-set l.marks (l.end - l.marks) work v 1 bound in
                let at : (k : ℕ) → get_or (lent l.marks l.end (set work (l.marks + v) 1)) k 0 ≡ get_or (set zs v 1) k 0 = λ k. ap (λ (ws : List ℕ). get_or ws k 0) new in
                let here : get_or (set zs v 1) v 0 ≡ 1 = get_or-set_same zs v 1 0 (omega (arith, bound, long)) in
                record {
                  outside = outside_set l.marks l.end work (l.marks + v) 1 (omega arith) (omega (arith, bound));
                  low = λ z k. elim (ℕ_discrete v k) [
                    | yes w ↦ omega (arith, at k, ap (λ (y : ℕ). get_or (set zs v 1) y 0) w, here)
                    | no d ↦ omega (arith, at k, get_or-set_other zs v k 1 0 (λ w. d (sym w)), z k)
                  ];
                  marked = λ k. elim (ℕ_discrete v k) [
                    | yes w ↦
                        ap (ltb 0) (at k ∙ ap (λ (y : ℕ). get_or (set zs v 1) y 0) (sym w) ∙ here)
                        ∙ sym (or_right (marked_in work l k) (hits s c i q k) (hit k ∙ eq-eqb (number_of s x) k (sym is_number ∙ w)))
                    | no d ↦
                        ap (ltb 0) (at k ∙ get_or-set_other zs v k 1 0 (λ w. d (sym w)))
                        ∙ sym (or-none (marked_in work l k) (hits s c i q k) (hit k ∙ ne_eqb (number_of s x) k (λ w. d (is_number ∙ w))))
                  ];
                }
