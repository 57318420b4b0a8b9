-- The walks that set the marks: what is left to be marked gives the whole.
use Rattle.std.specs.Prelude.{◌≡◌, ℕ, suc, ◌+◌, ◌-◌, ◌≤◌, ◌<◌, eqb, length, get_or, set, drop, take, replicate}
use Rattle.std.proofs.Math.Path.{refl}
use Rattle.std.proofs.Common.{sym, ap, ◌∙◌, subst, arith, eq-eqb, ne_eqb, drop_of_length-le}
use Rattle.std.proofs.Math.Bool.{true, false}
use mathlib.Core.List.{List, [], ◌∷◌, ◌++◌, map, append-nil}
use Rattle.std.proofs.Math.Numerals.{add-one}
use Rattle.std.proofs.Math.Seq.{drop-cons}
use Rattle.definition.specs.Test.{is, see, any}
use Rattle.definition.specs.Pack.{Pack, Result, step_of}
use Rattle.definition.specs.Verdict.{no_result}
use Rattle.definition.specs.Keys.{first_of, predicate_of, is_a_cut, needs, needed}
use Rattle.definition.proofs.Laws.Grow.{below_at}
use Rattle.theory.specs.Keys.Needed.{first-earlier}
use Rattle.base.specs.Outside.{Outside}
use Rattle.base.specs.Part.{put}
use Rattle.buffer.specs.Zero.{zeros_long, zeros_there, zeros-behind}
use Rattle.pack_tables.specs.Catalog.{records_of}
use Rattle.pack_tables.specs.declared.catalog.Catalog.{Catalog}
use Rattle.pack_read.specs.Reads.{length_steps, length_results}
use Rattle.pack_read.specs.Held.{Proper, OfHeld}
use Rattle.pack_read.specs.Says.{OfPack}
use Rattle.class_keys.specs.Firsts.{Noted, first-given}
use Rattle.class_keys.specs.Marks.{Marked, mark_all, mark_step, mark_below, result_steps, marked-none, marked_all, marked-needed, length-all, length-below, all_out, below_out}

-- ---- the things of a list, each of which has a step that is marked
module _ {A : Type 0} (first : A → ℕ) (none : A) (xs : List A) where
  -- one more
  pub all-turn : (marks : List ℕ) (i f : ℕ) → i < length xs → f ≡ first (get_or xs i none) → mark_all (set marks f 1) (map first (drop (i + 1) xs)) ≡ mark_all marks (map first (drop i xs))
  unfolding mark_all
  all-turn marks i f h e = rw (e, drop-cons xs i none h, add-one i)

  -- none left
  pub all_end : (marks : List ℕ) (i : ℕ) → length xs ≤ i → mark_all marks (map first (drop i xs)) ≡ marks
  unfolding mark_all
  all_end marks i h = rw (drop_of_length-le xs h)

-- ---- a step's own turn
module _ (P : Pack) (s : ℕ) (marks : List ℕ) where
  -- it is not marked
  pub step_unmarked : get_or marks s 0 ≡ 0 → mark_step P s marks ≡ marks
  unfolding mark_step
  step_unmarked e = rw (eq-eqb (get_or marks s 0) 0 e, mark_step)

  -- it is cut
  pub step_cut : is_a_cut P (predicate_of P s) ≡ true → mark_step P s marks ≡ marks
  unfolding mark_step needs mark_all
  step_cut e = elim (see (eqb (get_or marks s 0) 0)) [ is true p ↦ rw (p, mark_step) | is false p ↦ rw (p, mark_step, e, needs) ]

  -- it is marked and not cut
  pub step-refs : (get_or marks s 0 ≡ 0 → ⊥) → is_a_cut P (predicate_of P s) ≡ false → mark_step P s marks ≡ mark_all marks (map (first_of P) (step_of P s).refs)
  unfolding mark_step needs
  step-refs d e = rw (ne_eqb (get_or marks s 0) 0 d, mark_step, e, needs)

-- one step down
pub below-turn : (P : Pack) (n s : ℕ) (marks : List ℕ) → n ≡ suc s → mark_below s P (mark_step P s marks) ≡ mark_below n P marks
unfolding mark_below
below-turn P n s marks e = rw e

-- no step is left
pub below_end : (P : Pack) (n : ℕ) (marks : List ℕ) → n ≤ 0 → mark_below n P marks ≡ marks
unfolding mark_below
below_end P n marks h = let e : n ≡ 0 = omega arith in rw e

-- ---- steps that are referred to
module _ (bytes work : List ℕ) (c : Catalog) (at : ℕ) (N : Noted bytes work c at) where
  -- the pack that is held
  abbrev H : Pack
  H = N.placed.held.pack

  -- it has as many steps as there are records
  many : length H.steps ≡ length (records_of work c 4)
  many = length_steps bytes (records_of work c) H N.placed.held.reads

  -- a ref is a step, and a small number
  pub ref-given : (s i r : ℕ) → s < length (records_of work c 4) → i < length (step_of H s).refs → OfPack bytes work c (λ P. get_or (step_of P s).refs i 0) r → r < length (records_of work c 4)
  ref-given s i r h l f =
      let g = N.placed.held.proper.good.steps s (omega (arith, many)) in
      omega (arith, f H N.placed.held.reads, below_at s (step_of H s).refs i g.earlier l)

  -- a result's step is a step
  pub result-given : (i s : ℕ) → i < length (records_of work c 6) → OfPack bytes work c (λ P. (get_or P.results i no_result).step) s → s < length (records_of work c 4)
  result-given i s h f =
      let g = N.placed.held.proper.good.results i (omega (arith, length_results bytes (records_of work c) H N.placed.held.reads)) in
      omega (arith, f H N.placed.held.reads, g.step, many)

  -- its first step has a word
  pub first_inside : (s f : ℕ) → s < length (records_of work c 4) → OfHeld bytes work c (λ P. f ≡ first_of P s) → f < length (records_of work c 4)
  first_inside s f h e = omega (arith, e H N.placed.held.reads N.placed.held.proper, first-given H N.placed.held.proper s (omega (arith, many)), many)

-- ---- the whole
module _ (P : Pack) (Q : Proper P) where
  -- a first step of a result's step is a step
  results_not : (rs : List Result) → ((i : ℕ) → i < length rs → (get_or rs i no_result).step < length P.steps) → (s : ℕ) → length P.steps ≤ s → any (eqb s) (map (λ (r : Result). first_of P r.step) rs) ≡ false
  unfolding any
  results_not [] g s h = refl
  results_not (r ∷ rs) g s h =
      let l = g 0 (omega arith) in
      rw (ne_eqb s (first_of P r.step) (λ e. omega (arith, e, first-earlier P r.step l))) (results_not rs (λ i k. g (suc i) (omega arith)) s h)

  -- so no number past the steps is among them
  wanted-not : (s : ℕ) → length P.steps ≤ s → any (eqb s) (result_steps P) ≡ false
  unfolding result_steps
  wanted-not s h = results_not P.results (λ i l. (Q.good.results i l).step) s h

  module _ (n : ℕ) (many : n ≡ length P.steps) (marks zs : List ℕ) (fits : n ≤ length marks) (z : zs ≡ replicate (length (take (n - 0) (drop 0 marks))) 0) where
    -- zeros in place of the first words
    abbrev zeros : List ℕ
    zeros = put 0 (n - 0) zs marks

    -- then the results' steps are marked, then all that is needed
    abbrev last : List ℕ
    last = mark_below (length P.steps) P (mark_all zeros (result_steps P))

    -- these are the marks of the needed steps
    pub needed-marked : Marked (length P.steps) last (needed P)
    needed-marked =
        let l = zeros_long 0 n n marks zs (omega arith) fits z in
        let M : Marked (length P.steps) (mark_all zeros (result_steps P)) (result_steps P ++ []) =
        marked_all (length P.steps) zeros (result_steps P) [] (omega (arith, many, l)) (marked-none (length P.steps) zeros (λ s h. let q : 0 + s ≡ s = omega arith in ap (λ (i : ℕ). get_or zeros i 0) (sym q) ∙ zeros_there 0 n n marks zs (omega arith) fits z s (omega (arith, many)))) in
        marked-needed P Q.good (mark_all zeros (result_steps P)) (omega (arith, length-all zeros (result_steps P), l, many))
        (subst (λ (ws : List ℕ). Marked (length P.steps) (mark_all zeros (result_steps P)) ws) (append-nil (result_steps P)) M)

    -- and nothing else was written
    pub needed_outside : Outside 0 n marks last
    needed_outside = record {
      long = length-below P Q.good (length P.steps) (mark_all zeros (result_steps P)) ∙ length-all zeros (result_steps P) ∙ zeros_long 0 n n marks zs (omega arith) fits z;
      ahead = λ i h. absurd (omega arith);
      behind = λ i h.
          below_out P Q.good (length P.steps) (mark_all zeros (result_steps P)) i (omega (arith, many))
          ∙ all_out zeros (result_steps P) i (wanted-not i (omega (arith, many)))
          ∙ zeros-behind 0 n n marks zs (omega arith) fits z i h;
    }
