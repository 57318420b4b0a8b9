-- Later states: the same judgments are proved, and the store has grown. Stores further on, and the patterns that stand in them.
use Rattle.std.specs.Prelude.{◌≡◌, refl, List, ℕ, ◌<◌, length}
use Rattle.std.proofs.Common.{◌∙◌, arith}
use Rattle.definition.specs.Pack.{Node, no_node}
use Rattle.definition.specs.Good.{Below}
use Rattle.definition.proofs.Laws.Grow.{below_more}
use Rattle.definition.specs.Verdict.{Bound}
use Rattle.emission.specs.Render.{proof_text}
use Rattle.emission.specs.State.{Emitter, Setting}
use Rattle.emission.specs.Words.{pattern_of}
use Rattle.emission.specs.Prove.{line_of}
use Rattle.theory.specs.Copies.Terms.{Earlier}
use Rattle.theory.specs.Patterns.Interned.{Grows, grows_none, grows_then, grows_long, grows_at}

-- the bytes of proof text that a state has
abbrev pub text_length : Setting → Emitter → ℕ
text_length S e = length (proof_text S.pack S.name e.undone.lines)

-- from one state to a later one; lines, definitions and names may be others
pub record Later (a b : Emitter) : Type 0 where
  pub proved : b.undone.proved ≡ a.undone.proved
  pub grows : Grows a.kept.store b.kept.store

-- a state is no earlier than itself
pub later_itself : (e : Emitter) → Later e e
later_itself e = record { proved = refl; grows = grows_none e.kept.store }

-- what is later than a later state is later
pub later_then : (a b c : Emitter) → Later a b → Later b c → Later a c
later_then a b c l m = record { proved = m.proved ∙ l.proved; grows = grows_then a.kept.store b.kept.store c.kept.store l.grows m.grows }

-- a judgment has the line that it had, or none as before, under the same hypotheses
pub later-line : (hyps : List Bound) (a b : Emitter) (j : ℕ) → Later a b → line_of hyps b j ≡ line_of hyps a j
unfolding line_of
later-line hyps a b j l = rw l.proved

-- a pattern is what it was
pub later_pattern : (a b : Emitter) (p : ℕ) → p < length a.kept.store → Later a b → pattern_of b p ≡ pattern_of a p
later_pattern a b p h l = grows_at a.kept.store b.kept.store no_node p l.grows h

-- a pattern of a store whose nodes rest on earlier ones
abbrev pub Fit : List Node → ℕ → Type 0
Fit s p = Earlier s × (p < length s)

-- patterns of one
abbrev pub FitAll : List Node → List ℕ → Type 0
FitAll s ps = Earlier s × Below (length s) ps

-- a store further on: it has grown, and its nodes rest on earlier ones if they did so before
pub record Further (s t : List Node) : Type 0 where
  pub grows : Grows s t
  pub earlier : Earlier s → Earlier t

-- the same store
pub further_none : (s : List Node) → Further s s
further_none s = record { grows = grows_none s; earlier = λ E. E }

-- a store twice further on
pub further_then : (s t u : List Node) → Further s t → Further t u → Further s u
further_then s t u a b = record { grows = grows_then s t u a.grows b.grows; earlier = λ E. b.earlier (a.earlier E) }

-- its patterns stay
pub further_fit : {s t : List Node} (p : ℕ) → Further s t → Fit s p → Fit t p
further_fit {s = s} {t = t} p w fit = (w.earlier fit.0, omega (arith, grows_long s t w.grows, fit.1))

-- several likewise
pub further_fits : {s t : List Node} (ps : List ℕ) → Further s t → FitAll s ps → FitAll t ps
further_fits {s = s} {t = t} ps w fits = (w.earlier fits.0, below_more (length s) (length t) ps (grows_long s t w.grows) fits.1)
