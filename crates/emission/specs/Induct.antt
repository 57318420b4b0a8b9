-- From `induct`, and `prove` at depth 0: a cut judgment is proved by rules, or, if it mentions L, by induction on L.
use Rattle.std.specs.Prelude.{true, false, List, [], ◌∷◌, map, ℕ, suc, ◌+◌, ◌-◌, eqb, get_or}
use Rattle.definition.specs.Pack.{symbol_of}
use Rattle.definition.specs.Verdict.{Bound}
use Rattle.definition.specs.Store.{variable_node}
use Rattle.definition.specs.Analysis.{pairing}
use Rattle.definition.specs.Run.{Run}
use Rattle.emission.specs.Line.{Case, var_line, hyp_line, induct_line, tally}
use Rattle.emission.specs.State.{Emitter, Setting, Tried, ◌>>=◌, ◌or_else◌, give, fail, now, change, grown_to, interned, write, write_step, having_name, having_proved}
use Rattle.emission.specs.Words.{judgment}
use Rattle.emission.specs.Patterns.{constructors_of, mentions, replace}
use Rattle.emission.specs.Prove.{chain, prove}

-- case variable k is pattern variable 2^31−1 + k, as in the Rust
abbrev pub case_number : ℕ → ℕ
case_number k = 2147483647 + k

-- new variables of these sorts, each interned and then written: pairs of the number in lines and the pattern
unfoldable pub case_variables : Setting → List ℕ → Emitter → Run (Tried (List Bound))
unfolding interned write tally
case_variables S [] = give []
case_variables S (sort ∷ sorts) = do
  e ← now
  let k = (tally e.undone.lines).variables
  v ← interned (variable_node (case_number k) sort)
  _ ← write S (var_line sort)
  _ ← change (having_name v k)
  vs ← case_variables S sorts
  give (pairing (suc k) v ∷ vs)

-- the variables of L's own sort
unfoldable pub recursive : ℕ → List ℕ → List ℕ → List ℕ
recursive sort [] vs = []
recursive sort (s ∷ ss) [] = []
recursive sort (s ∷ ss) (v ∷ vs) = elim (eqb s sort) [ true ↦ v ∷ recursive sort ss vs | false ↦ recursive sort ss vs ]

-- a judgment with another pattern for L
unfoldable pub put_for_l : Setting → ℕ → ℕ → Emitter → Run (Tried ℕ)
unfolding replace grown_to
put_for_l S y j = do
  e ← now
  let put = replace (suc j) S.eigen y (j ∷ []) e.kept.store
  _ ← grown_to put.store
  give (get_or put.numbers 0 0)

-- the judgment supposed of each of these variables, behind the hypotheses so far
unfoldable pub suppose : Setting → ℕ → List ℕ → List Bound → Emitter → Run (Tried (List Bound))
unfolding put_for_l judgment write_step
suppose S j [] hyps = give hyps
suppose S j (v ∷ vs) hyps = do
  h ← put_for_l S v j
  said ← judgment S h
  n ← write_step S (hyp_line said)
  suppose S j vs (pairing h n ∷ hyps)

-- a constructor's case: its variables, its term, its hypotheses, then the judgment of its term by a rule. The hypotheses are in scope here
-- alone
unfoldable pub induct_case : Setting → (List Bound → ℕ → Emitter → Run (Tried ℕ)) → ℕ → ℕ → Emitter → Run (Tried Case)
unfolding case_variables recursive suppose interned put_for_l chain symbol_of
induct_case S deeper j c = do
  let sorts = (symbol_of S.pack c).inputs
  vs ← case_variables S sorts
  let patterns = map (λ (v : Bound). v.value) vs
  term ← interned (record { head = c; args = patterns })
  hyps ← suppose S j (recursive S.sort sorts patterns) []
  goal ← put_for_l S term j
  n ← chain S (λ q. deeper hyps q) goal
  give (record { last = n; variables = map (λ (v : Bound). v.variable) vs })

unfoldable pub induct_cases : Setting → (List Bound → ℕ → Emitter → Run (Tried ℕ)) → ℕ → List ℕ → Emitter → Run (Tried (List Case))
unfolding induct_case
induct_cases S deeper j [] = give []
induct_cases S deeper j (c ∷ cs) = do
  case ← induct_case S deeper j c
  cases ← induct_cases S deeper j cs
  give (case ∷ cases)

-- the constructors of L's sort, one by one, then the induct line
unfoldable pub induct : Setting → (List Bound → ℕ → Emitter → Run (Tried ℕ)) → ℕ → Emitter → Run (Tried ℕ)
unfolding constructors_of induct_cases judgment write_step
induct S deeper j = do
  cases ← induct_cases S deeper j (constructors_of S.sort S.pack.symbols 0)
  said ← judgment S j
  write_step S (induct_line said cases)

unfoldable pub by_induction : Setting → (List Bound → ℕ → Emitter → Run (Tried ℕ)) → ℕ → Emitter → Run (Tried ℕ)
unfolding mentions induct
by_induction S deeper j = do
  e ← now
  elim (mentions (suc j) e.kept.store S.eigen (j ∷ [])) [
    | false ↦ fail
    | true ↦ induct S deeper j >>= λ n. change (having_proved j n) >>= λ _. give n
  ]

-- "below depth 4,096"
abbrev pub deepest : ℕ
deepest = 4096

-- from depth 0, which is a level too; a case is chained at depth 1, so its premises are proved at depth 2
unfoldable pub prove_cut : Setting → ℕ → Emitter → Run (Tried ℕ)
unfolding prove by_induction
prove_cut S j = prove (suc deepest) S [] j or_else by_induction S (λ hyps q. prove (deepest - 1) S hyps q) j
