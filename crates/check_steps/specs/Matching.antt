-- A rule being matched: its next word, the nodes still to be matched, the values so far.
use Rattle.std.specs.Prelude.{◌≡◌, List, ◌++◌, ℕ, suc, ◌<◌, length, drop}
use Rattle.std.proofs.Math.Option.{Option, none, some}
use Rattle.definition.specs.Pack.{Pack, rule_of, node_of, step_of}
use Rattle.definition.specs.Verdict.{Bound}
use Rattle.definition.specs.Good.{Below}
use Rattle.base.specs.Stack.{stacked}
use Rattle.base.specs.declared.stack.Stack.{Stack}
use Rattle.pack_tables.specs.declared.catalog.Catalog.{Catalog}
use Rattle.pack_read.specs.Reads.{rule_words}
use Rattle.pack_read.specs.Held.{Held, OfHeld}
use Rattle.check_steps.specs.Words.{match_words, against}
use Rattle.check_steps.specs.Pending.{Pending}
use Rattle.check_steps.specs.Values.{Values}
use Rattle.check_steps.specs.declared.matching.Turn.{Turn}
use Rattle.check_steps.specs.declared.matching.Turn.TheVariants.{Next, Done, Fails}

-- rule r is matched up to word i
pub record Matching (P : Pack) (r : ℕ) (stack vals : List ℕ) (s : Stack) (i : ℕ) (bs : List Bound) : Type 0 where
  pub base : s.at ≡ 0
  pub room : length stack ≡ 256
  pub slots : length vals ≡ 64
  pub pending : Pending P (rule_of P r).vars (drop i (rule_words (rule_of P r))) s.len
  pub below : Below (length P.nodes) (stacked 0 s.len stack)
  pub values : Values (length (rule_of P r).vars) vals bs

-- a node's arguments were put on the stack, the first on top
abbrev pub ArgumentsOn : List ℕ → List ℕ → Catalog → ℕ → List ℕ → List ℕ → Stack → Stack → Type 0
ArgumentsOn bytes work c n stack stack' s s' = (s'.at ≡ 0) × OfHeld bytes work c (λ P. stacked 0 s'.len stack' ≡ (node_of P n).args ++ stacked 0 s.len stack)

-- the nodes that a step's rule is matched against are on the stack
abbrev pub JudgmentsOn : List ℕ → List ℕ → Catalog → ℕ → List ℕ → Stack → Type 0
JudgmentsOn bytes work c i stack' s' = (s'.at ≡ 0) × OfHeld bytes work c (λ P. stacked 0 s'.len stack' ≡ against P (step_of P i))

-- what matching the rest comes to
abbrev pub rest : Pack → ℕ → List ℕ → ℕ → ℕ → List Bound → Option (List Bound)
rest P r stack len i bs = match_words P (drop i (rule_words (rule_of P r))) (stacked 0 len stack) bs

-- what a turn asks for: some pack that is held, the number of its rule's variables, and some values
abbrev pub Asked : List ℕ → List ℕ → Catalog → ℕ → ℕ → List ℕ → List ℕ → Stack → ℕ → Type 0
Asked bytes work c r vars stack vals s i = (H : Held bytes work c) × (bs : List Bound) × (r < length H.pack.rules) × (vars ≡ length (rule_of H.pack r).vars) × Matching H.pack r stack vals s i bs

-- what a turn answers: the next state, with as much to come as before; or the end, or that something differs
abbrev pub Turned : List ℕ → List ℕ → Catalog → ℕ → List ℕ → List ℕ → List ℕ → List ℕ → Stack → ℕ → Turn → Type 0
Turned bytes work c r stack stack' values values' s i (Next s') =
    OfHeld bytes work c (λ P. (r < length P.rules) → (bs : List Bound) → Matching P r stack values s i bs
    → (cs : List Bound) × Matching P r stack' values' s' (suc i) cs × (rest P r stack s.len i bs ≡ rest P r stack' s'.len (suc i) cs) × (i < 256))
Turned bytes work c r stack stack' values values' s i Done = OfHeld bytes work c (λ P. (r < length P.rules) → (bs : List Bound) → Matching P r stack values s i bs → rest P r stack s.len i bs ≡ some bs)
Turned bytes work c r stack stack' values values' s i Fails = OfHeld bytes work c (λ P. (r < length P.rules) → (bs : List Bound) → Matching P r stack values s i bs → rest P r stack s.len i bs ≡ none)

-- rule r is to be matched against the nodes on the stack
pub record Ready (P : Pack) (r : ℕ) (stack : List ℕ) (s : Stack) : Type 0 where
  pub rule : r < length P.rules
  pub base : s.at ≡ 0
  pub room : length stack ≡ 256
  pub pending : Pending P (rule_of P r).vars (rule_words (rule_of P r)) s.len
  pub below : Below (length P.nodes) (stacked 0 s.len stack)
