-- A variable's value in its memo: it is given its first, every later one must be the same.
use Rattle.std.specs.Prelude.{◌≡◌, Bool, List, ◌∷◌, ℕ, ◌≤◌, ◌<◌, eqb, length}
use Rattle.std.proofs.Math.Path.{sym}
use Rattle.std.proofs.Common.{◌∙◌}
use Rattle.std.proofs.Math.Bool.{true, false}
use Rattle.std.proofs.Math.Option.{none, some}
use Rattle.definition.specs.Test.{is, see}
use Rattle.definition.specs.Verdict.{Bound, value_of, bound}
use Rattle.definition.specs.Analysis.{pairing}
use Rattle.base.specs.Outside.{Outside, outside_none}
use Rattle.memo.specs.Recall.{recall, Remembers}
use Rattle.memo.specs.Lent.{lent, Puts}
use Rattle.memo.specs.declared.memo.Memo.{Memo}
use Rattle.term_instance.specs.declared.tables.Instance.{Instance}
use Rattle.term_instance.specs.Held.{value_at, recall-more}

-- a memo that has room for the variable
pub record Bindable (work : List ℕ) (l : Instance) (values : Memo) (k : ℕ) : Type 0 where
  pub order : l.values ≤ l.end
  pub fits : l.end ≤ length work
  pub kept : Remembers (lent l.values l.end work) values
  pub room : k < length (recall (lent l.values l.end work) values)

-- the values with the variable's, or that it has another
abbrev pub Gives : (work' : List ℕ) (l : Instance) (values : Memo) (k n : ℕ) (vs : List Bound) → Bool → Type 0
Gives work' l values k n vs true = (ws : List Bound) × (bound k n vs (value_of k vs) ≡ some ws) × ((j : ℕ) → value_at work' l values j ≡ value_of j ws)
Gives work' l values k n vs false = bound k n vs (value_of k vs) ≡ none

-- of whatever values the memo has
abbrev pub Binds : (work work' : List ℕ) (l : Instance) (values : Memo) (k n : ℕ) → Bool → Type 0
Binds work work' l values k n r =
    Outside l.values l.end work work' × Remembers (lent l.values l.end work') values
    × ((vs : List Bound) → ((j : ℕ) → value_at work l values j ≡ value_of j vs) → Gives work' l values k n vs r)

module _ (work : List ℕ) (l : Instance) (values : Memo) (k n : ℕ) (Q : Bindable work l values k) where
  -- it has one: this or another
  pub binds_known : (m : ℕ) → some m ≡ value_at work l values k → Binds work work l values k n (eqb m n)
  unfolding bound
  binds_known m e = elim (see (eqb m n)) [
    | is true q ↦ rw q (outside_none l.values l.end work, Q.kept, λ vs h. let v : value_of k vs ≡ some m = sym (e ∙ h k) in (vs, rw (v, q, bound), h))
    | is false q ↦ rw q (outside_none l.values l.end work, Q.kept, λ vs h. let v : value_of k vs ≡ some m = sym (e ∙ h k) in rw (v, q, bound))
  ]

  -- it gets this one
  pub binds_new : none ≡ value_at work l values k → (work' : List ℕ) → Puts work work' l.values l.end values k n → Binds work work' l values k n true
  unfolding bound
  binds_new e work' W = (W.outside, W.remembers, λ vs h. let v : value_of k vs ≡ none = sym (e ∙ h k) in (pairing k n ∷ vs, rw (v, bound), recall-more work work' l.values l.end values k n W vs h))
