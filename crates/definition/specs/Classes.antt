-- Document 01, "Class rows and patterns": the classes made one by one, from `run`.
use Rattle.std.specs.Prelude.{Bool, true, false, not, List, [], ◌∷◌, ◌++◌, map, ℕ, suc, ◌+◌, eqb, length, get_or}
use Rattle.std.proofs.Math.Option.{Option, none, some}
use Rattle.definition.specs.Test.{◌and◌}
use Rattle.definition.specs.Pack.{Terms, nil, cons, Node, no_node, Pack, symbol_of, rule_of, step_of}
use Rattle.definition.specs.Verdict.{Bound, value_of}
use Rattle.definition.specs.Store.{variable_node, is_variable, intern, pattern_words}
use Rattle.definition.specs.Graph.{Graph, variable_vertex, vertex, cells, root, is_var, unify, circular, up_to}
use Rattle.definition.specs.Analysis.{copied, copy, instantiate, StoredAll, valued, number_of, resolve}
use Rattle.definition.specs.Keys.{cut_key, rule_key, Keyed, first_of, keyed}
use Rattle.definition.specs.Run.{Run, ◌>>=◌, note, return, or_else, need}
use Rattle.definition.specs.declared.Refusal.TheVariants.{Clash, Circle, Instance}

-- a class: its conclusion's pattern and its variables' marks; whether it is a cut one, and what figures count of it
pub record Class : Type 0 where
  pub conclusion : ℕ
  pub flex : List Bool
  pub cut : Bool
  pub fixed : ℕ
  pub entries : ℕ
  pub renamings : ℕ

abbrev pub no_class : Class
no_class = record { conclusion = 0; flex = []; cut = false; fixed = 0; entries = 0; renamings = 0 }

-- the store and the classes made so far, and how full the class buffer is
pub record Built : Type 0 where
  pub store : List Node
  pub classes : List Class
  pub fill : ℕ

-- a class is made: its patterns first, then its row, "when the class is made"
unfoldable pub add_class : Built → List Node → Class → Run Built
unfolding pattern_words
add_class b store c = do
  let fill = b.fill + 3 + length c.flex
  _ ← note 2 (length (pattern_words store))
  _ ← note 1 fill
  return (record { store = store; classes = b.classes ++ (c ∷ []); fill = fill })

-- variables of these sorts, numbered on from k
unfoldable pub fresh_variables : List ℕ → ℕ → List Node → StoredAll
unfolding intern
fresh_variables [] k s = record { numbers = []; store = s }
fresh_variables (so ∷ sorts) k s =
    let first = intern s (variable_node k so) in
    let rest = fresh_variables sorts (suc k) first.store in
    record { numbers = first.number ∷ rest.numbers; store = rest.store }

-- a cut class: "all arguments distinct flexible variables"
unfoldable pub make_cut : Pack → ℕ → Built → Run Built
unfolding fresh_variables intern symbol_of add_class
make_cut P p b =
    let inputs = (symbol_of P p).inputs in
    let args = fresh_variables inputs 0 b.store in
    let top = intern args.store (record { head = p; args = args.numbers }) in
    add_class b top.store (record { conclusion = top.number; flex = map (λ s. true) inputs; cut = true; fixed = 0; entries = 0; renamings = 0 })

-- the premises taken so far: the graph, each instance with its ref's judgment, and the copies' variables in their order
pub record Premises : Type 0 where
  pub graph : Graph
  pub instances : List ℕ
  pub judgments : List ℕ
  pub copies : List ℕ

-- what the numbers stand for that stand for something, in their order
unfoldable pub in_order : List ℕ → List Bound → List ℕ
unfolding value_of
in_order [] bs = []
in_order (k ∷ ks) bs = elim (value_of k bs) [ none ↦ in_order ks bs | some x ↦ x ∷ in_order ks bs ]

-- "each instantiated premise (left) with a fresh copy of its ref's conclusion (right)"
unfoldable pub take_premises : Pack → ℕ → List ℕ → Built → List ℕ → Terms → List ℕ → Premises → Run Premises
unfolding copy instantiate cells unify copied up_to in_order step_of or_else
take_premises P s words b env nil refs ps = return ps
take_premises P s words b env (cons t ts) [] ps = return ps
take_premises P s words b env (cons t ts) (r ∷ refs) ps = do
  let class = get_or b.classes (get_or words r 0) no_class
  let fresh = copy b.store class.flex ps.graph class.conclusion
  let inst = instantiate t env fresh.graph
  _ ← note 3 (cells inst.graph)
  g ← or_else (unify inst.graph inst.at (copied fresh.nodes class.conclusion)).graph (Clash s)
  take_premises P s words b env ts refs (record { graph = g; instances = ps.instances ++ (inst.at ∷ []); judgments = ps.judgments ++ ((step_of P r).judgment ∷ []); copies = ps.copies ++ in_order (up_to (length class.flex)) fresh.variables })

-- how many of these pass
unfoldable pub count_of : {A : Type 0} → (A → Bool) → List A → ℕ
count_of f [] = 0
count_of f (x ∷ xs) = elim (f x) [ true ↦ suc (count_of f xs) | false ↦ count_of f xs ]

unfoldable pub is_some : {A : Type 0} → Option A → Bool
is_some none = false
is_some (some a) = true

-- a variable of the premises that is neither numbered nor flexible: it is fixed to its ground value
unfoldable pub is_fixed : Graph → List Bound → List ℕ → ℕ → Bool
unfolding ◌and◌ root vertex is_var value_of number_of is_some
is_fixed g values numbering x = eqb (root g x) x and is_var (vertex g x) and not (vertex g x).flex and is_some (value_of x values) and not (is_some (number_of x numbering 0))

-- the class that a step makes: its premises unified, no circle left, the refs' judgments an instance; then its conclusion and the
-- copies' variables read back
unfoldable pub make_rule : Pack → ℕ → List ℕ → Built → Run Built
unfolding take_premises circular valued instantiate cells resolve is_variable is_fixed count_of vertex up_to rule_of step_of first_of add_class or_else need
make_rule P s words b = do
  let rule = rule_of P (step_of P s).rule
  let env = up_to (length rule.vars)
  let variables = map (λ so. variable_vertex so false false) rule.vars
  _ ← note 3 (cells variables)
  ps ← take_premises P s words b env rule.premises (map (first_of P) (step_of P s).refs) (record { graph = variables; instances = []; judgments = []; copies = [] })
  _ ← need (not (circular ps.graph)) (Circle s)
  values ← or_else (valued (suc (length ps.graph)) P ps.graph ps.instances ps.judgments []) (Instance s)
  let top = instantiate rule.conclusion env ps.graph
  _ ← note 3 (cells top.graph)
  let depth = suc (length top.graph)
  let conclusion = resolve depth P top.graph values true (top.at ∷ []) (record { numbering = []; store = b.store })
  let entries = resolve depth P top.graph values false ps.copies conclusion.state
  let numbering = entries.state.numbering
  add_class b entries.state.store (record {
    conclusion = get_or conclusion.patterns 0 0;
    flex = map (λ x. (vertex top.graph x).flex) numbering;
    cut = false;
    fixed = count_of (is_fixed top.graph values numbering) (up_to (length top.graph));
    entries = length entries.patterns;
    renamings = count_of (λ p. is_variable (get_or entries.state.store p no_node)) entries.patterns;
  })

unfoldable pub make_class : Pack → List ℕ → Keyed → Built → Run Built
unfolding make_cut make_rule
make_class P words k b = elim k.key [ cut_key p ↦ make_cut P p b | rule_key r cs ↦ make_rule P k.first words b ]

-- classes "as they are made", in the order of their first steps
unfoldable pub make_classes : Pack → List ℕ → List Keyed → Built → Run Built
unfolding make_class
make_classes P words [] b = return b
make_classes P words (k ∷ ks) b = make_class P words k b >>= λ c. make_classes P words ks c

-- "all step words are written ahead of the first step"
unfoldable pub build_classes : Pack → Run Built
unfolding keyed make_classes
build_classes P = do
  _ ← note 1 (length P.steps)
  make_classes P (keyed P).words (keyed P).classes (record { store = []; classes = []; fill = length P.steps })

-- a mark as a word: "flex marks 0 or 1"
unfoldable pub mark : Bool → ℕ
mark false = 0
mark true = 1

-- "per class conclusion, instance count, variable count, flex marks"
unfoldable pub row_words : List Class → List Keyed → List ℕ
unfolding mark
row_words [] ks = []
row_words (c ∷ cs) [] = []
row_words (c ∷ cs) (k ∷ ks) = (c.conclusion ∷ k.count ∷ length c.flex ∷ map mark c.flex) ++ row_words cs ks

-- "Class words: each step's class …, then per class"
unfoldable pub class_words : Pack → Built → List ℕ
unfolding keyed row_words
class_words P b = (keyed P).words ++ row_words b.classes (keyed P).classes
