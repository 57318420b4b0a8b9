-- The turns one after the other.
use Rattle.std.specs.Prelude.{refl, true, false, List, ℕ, suc, ◌<◌}
use Rattle.std.proofs.Common.{sym, ◌∙◌}
use Rattle.base.specs.declared.stack.Stack.{Stack}
use Rattle.emit_match.specs.Places.{Stays, stays_none, stays_then, given_reads, given_on}
use Rattle.emit_match.specs.Partly.{Asked, Turned, Going, Matched}
use Rattle.emit_match.specs.declared.places.Matching.{Matching}
use Rattle.check_steps.specs.declared.matching.Turn.TheVariants.{Next, Done, Fails}

module _ (bytes work words : List ℕ) (m : Matching) (r vars : ℕ) (t : Stack) (i : ℕ) (A : Asked bytes work words m r vars t i) where
  -- ahead of the first turn
  pub going_none : Going bytes work work words m r t i t i
  going_none = (stays_none m work, λ P R Q S l bs M. (bs, M, refl))

  module _ (work' : List ℕ) (t' : Stack) (i' : ℕ) (K : Going bytes work work' words m r t i t' i') where
    -- a turn can be asked for
    pub going_asked : Asked bytes work' words m r vars t' i'
    going_asked =
        let G = A.0 in
        let g = K.1 G.held.pack G.held.reads G.held.proper G.sorted A.2 A.1 A.4 in
        (given_on bytes work words m G work' K.0, g.0, A.2, A.3, g.1)

    module _ (work'' : List ℕ) where
      -- there was a word more
      pub going_early : (t'' : Stack) → Turned bytes work' work'' words m r t' i' (Next t'') → i' < 256
      going_early t'' T =
          let B = going_asked in
          (T B.0.held.pack B.0.held.reads B.0.held.proper B.0.sorted B.2 B.1 B.4).3

      -- it was matched
      pub going_more : (t'' : Stack) → Stays m work' work'' → Turned bytes work' work'' words m r t' i' (Next t'') → Going bytes work work'' words m r t i t'' (suc i')
      going_more t'' O T = (
        stays_then m work work' work'' K.0 O,
        λ P R Q S l bs M.
            let g = K.1 P R Q S l bs M in
            let n = T P (given_reads bytes work words m A.0 work' K.0 P R) Q S l g.0 g.1 in
            (n.0, n.1, sym n.2 ∙ g.2),
      )

      -- none was left
      pub going_done : Turned bytes work' work'' words m r t' i' Done → Matched bytes work work'' words m r t i true
      going_done T = λ P R Q S l bs M.
          let g = K.1 P R Q S l bs M in
          let n = T P (given_reads bytes work words m A.0 work' K.0 P R) Q S l g.0 g.1 in
          (g.0, sym g.2 ∙ n.0, n.1)

      -- something differs
      pub going_fails : Turned bytes work' work'' words m r t' i' Fails → Matched bytes work work'' words m r t i false
      going_fails T = λ P R Q S l bs M.
          let g = K.1 P R Q S l bs M in
          sym g.2 ∙ T P (given_reads bytes work words m A.0 work' K.0 P R) Q S l g.0 g.1
