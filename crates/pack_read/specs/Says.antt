-- What reading in place says of the parsed pack.
use Rattle.std.specs.Prelude.{Option, Some, None}
use Rattle.std.specs.Prelude.{◌≡◌, refl, true, List, [], ℕ, ◌+◌, ◌*◌, ◌-◌, ◌/◌, ◌≤◌, ◌<◌, drop}
use Rattle.std.proofs.Math.Path.{sym}
use Rattle.std.proofs.Common.{ap, ◌∙◌, arith}
use Rattle.std.proofs.Math.ListN.{length, get_or}
use Rattle.definition.specs.Test.{◌and◌}
use Rattle.definition.specs.Little.{le}
use Rattle.definition.specs.Pack.{Symbol, Node, Step, Goal, Result, Cut, Abstract, Pack, symbol_of, rule_of, node_of, step_of}
use Rattle.definition.specs.Certificate.{count}
use Rattle.definition.proofs.Laws.Put.{length-words}
use Rattle.definition.specs.Verdict.{no_goal, no_result}
use Rattle.definition.specs.Good.{no_cut, no_abstract}
use Rattle.pack_tables.specs.Place.{Place, no_place, key_at}
use Rattle.pack_tables.specs.Catalog.{records_of, keyed_kind, Cataloged, SoughtIn}
use Rattle.pack_tables.specs.declared.catalog.Catalog.{Catalog}
use Rattle.pack_read.specs.Body.{body_of, symbol_in, node_in, step_in, goal_in, result_in, cut_in, abstract_in}
use Rattle.pack_read.specs.Laws.{word-from, record_inside}
use Rattle.pack_read.specs.Reads.{rule_words, Reads, length_results, sort_of, symbol_of_law, rule_of_law, node_of_law, step_of_law, goal_of, result_of, cut_of, abstract_of}

-- work holds the places of a pack's records
pub record Readable (bytes work : List ℕ) (c : Catalog) : Type 0 where
  pub cataloged : Cataloged bytes work c
  pub pack : Pack
  pub reads : Reads bytes (records_of work c) pack

-- r is this of whatever pack the records are
abbrev pub OfPack : {A : Type 0} → List ℕ → List ℕ → Catalog → (Pack → A) → A → Type 0
OfPack bytes work c f r = (P : Pack) → Reads bytes (records_of work c) P → r ≡ f P

-- v is prefix word i of rule r in whatever pack the records are, if the rule has so many there: the bytes do not say where its words end
abbrev pub WordOfRule : List ℕ → List ℕ → Catalog → ℕ → ℕ → ℕ → Type 0
WordOfRule bytes work c r i v = (P : Pack) → Reads bytes (records_of work c) P → i < length (rule_words (rule_of P r)) → v ≡ get_or (rule_words (rule_of P r)) i 0

-- the result that has goal g's name, in whatever pack the records are
abbrev pub ResultOf : List ℕ → List ℕ → Catalog → ℕ → Option ℕ → Type 0
ResultOf bytes work c g (Some i) = (P : Pack) → Reads bytes (records_of work c) P → (i < length P.results) × ((get_or P.results i no_result).name ≡ (get_or P.goals g no_goal).name)
ResultOf bytes work c g None = (P : Pack) → Reads bytes (records_of work c) P → (i : ℕ) → i < length P.results → (get_or P.results i no_result).name ≡ (get_or P.goals g no_goal).name → ⊥

module _ (bytes : List ℕ) (rs : ℕ → List Place) (P : Pack) (R : Reads bytes rs P) where
  -- ---- symbols
  module _ (h : ℕ) (l : h < length (rs 1)) where
    abbrev symbol_body : List ℕ
    symbol_body = body_of bytes (rs 1) h

    pub output_read : le 4 symbol_body 0 ≡ (symbol_of P h).output
    unfolding symbol_in
    output_read = sym (ap (λ (x : Symbol). x.output) (symbol_of_law bytes rs P R h l))

    pub arity_read : le 2 symbol_body 4 ≡ length (symbol_of P h).inputs
    unfolding symbol_in
    arity_read = sym (ap (λ (x : Symbol). length x.inputs) (symbol_of_law bytes rs P R h l) ∙ length-words (le 2 symbol_body 4) (drop 6 symbol_body))

    pub input_below : (i : ℕ) → i < length (symbol_of P h).inputs → i < le 2 symbol_body 4
    input_below i m = omega (arith, arity_read)

    pub input_read : (i : ℕ) → i < le 2 symbol_body 4 → le 4 symbol_body (6 + 4 * i) ≡ get_or (symbol_of P h).inputs i 0
    unfolding symbol_in
    input_read i m = sym (ap (λ (x : Symbol). get_or x.inputs i 0) (symbol_of_law bytes rs P R h l) ∙ word-from 6 (le 2 symbol_body 4) i symbol_body m)

    pub input_room : (i : ℕ) → i < le 2 symbol_body 4 → 6 + 4 * i + 4 ≤ length symbol_body
    input_room i m = omega (arith, (R.symbols.form h l).0)

  -- ---- rules
  module _ (r : ℕ) (l : r < length (rs 2)) where
    abbrev rule_body : List ℕ
    rule_body = body_of bytes (rs 2) r

    pub rule_long : 4 ≤ length rule_body
    rule_long = omega (arith, (rule_of_law bytes rs P R r l).room)

    pub vars_read : le 2 rule_body 0 ≡ length (rule_of P r).vars
    vars_read = sym (ap length (rule_of_law bytes rs P R r l).vars ∙ length-words (le 2 rule_body 0) (drop 4 rule_body))

    pub premises_read : le 2 rule_body 2 ≡ count (rule_of P r).premises
    premises_read = sym (rule_of_law bytes rs P R r l).premises

    pub var_below : (k : ℕ) → k < length (rule_of P r).vars → k < le 2 rule_body 0
    var_below k m = omega (arith, vars_read)

    pub var_read : (k : ℕ) → k < le 2 rule_body 0 → le 4 rule_body (4 + 4 * k) ≡ get_or (rule_of P r).vars k 0
    var_read k m = sym (ap (λ (xs : List ℕ). get_or xs k 0) (rule_of_law bytes rs P R r l).vars ∙ word-from 4 (le 2 rule_body 0) k rule_body m)

    pub var_room : (k : ℕ) → k < le 2 rule_body 0 → 4 + 4 * k + 4 ≤ length rule_body
    var_room k m = omega (arith, (rule_of_law bytes rs P R r l).room)

    pub word_room : (n i : ℕ) → n ≡ le 2 rule_body 0 → i < length (rule_words (rule_of P r)) → 4 + 4 * n + 4 * i + 4 ≤ length rule_body
    word_room n i e m = omega (arith, (rule_of_law bytes rs P R r l).room)

    pub word_read : (n i : ℕ) → n ≡ le 2 rule_body 0 → i < length (rule_words (rule_of P r)) → le 4 rule_body (4 + 4 * n + 4 * i) ≡ get_or (rule_words (rule_of P r)) i 0
    word_read n i e m =
        ap (λ (v : ℕ). le 4 rule_body (4 + 4 * v + 4 * i)) e
        ∙ sym (word-from (4 + 4 * le 2 rule_body 0) (length (rule_words (rule_of P r))) i rule_body m)
        ∙ ap (λ (xs : List ℕ). get_or xs i 0) (rule_of_law bytes rs P R r l).terms

  -- ---- nodes
  module _ (n : ℕ) (l : n < length (rs 3)) where
    abbrev node_body : List ℕ
    node_body = body_of bytes (rs 3) n

    pub head_read : le 4 node_body 0 ≡ (node_of P n).head
    unfolding node_in
    head_read = sym (ap (λ (x : Node). x.head) (node_of_law bytes rs P R n l))

    pub arguments_read : (length node_body - 4) / 4 ≡ length (node_of P n).args
    unfolding node_in
    arguments_read = sym (ap (λ (x : Node). length x.args) (node_of_law bytes rs P R n l) ∙ length-words ((length node_body - 4) / 4) (drop 4 node_body))

    pub argument_below : (i : ℕ) → i < length (node_of P n).args → i < (length node_body - 4) / 4
    argument_below i m = omega (arith, arguments_read)

    pub argument_read : (i : ℕ) → i < (length node_body - 4) / 4 → le 4 node_body (4 + 4 * i) ≡ get_or (node_of P n).args i 0
    unfolding node_in
    argument_read i m = sym (ap (λ (x : Node). get_or x.args i 0) (node_of_law bytes rs P R n l) ∙ word-from 4 ((length node_body - 4) / 4) i node_body m)

    pub argument_room : (i : ℕ) → i < (length node_body - 4) / 4 → 4 + 4 * i + 4 ≤ length node_body
    argument_room i m = omega (arith, (R.nodes.form n l).0)

  -- ---- steps
  module _ (s : ℕ) (l : s < length (rs 4)) where
    abbrev step_body : List ℕ
    step_body = body_of bytes (rs 4) s

    pub rule_read : le 4 step_body 0 ≡ (step_of P s).rule
    unfolding step_in
    rule_read = sym (ap (λ (x : Step). x.rule) (step_of_law bytes rs P R s l))

    pub judgment_read : le 4 step_body 4 ≡ (step_of P s).judgment
    unfolding step_in
    judgment_read = sym (ap (λ (x : Step). x.judgment) (step_of_law bytes rs P R s l))

    pub refs_read : (length step_body - 8) / 4 ≡ length (step_of P s).refs
    unfolding step_in
    refs_read = sym (ap (λ (x : Step). length x.refs) (step_of_law bytes rs P R s l) ∙ length-words ((length step_body - 8) / 4) (drop 8 step_body))

    pub ref-below : (i : ℕ) → i < length (step_of P s).refs → i < (length step_body - 8) / 4
    ref-below i m = omega (arith, refs_read)

    pub ref_read : (i : ℕ) → i < (length step_body - 8) / 4 → le 4 step_body (8 + 4 * i) ≡ get_or (step_of P s).refs i 0
    unfolding step_in
    ref_read i m = sym (ap (λ (x : Step). get_or x.refs i 0) (step_of_law bytes rs P R s l) ∙ word-from 8 ((length step_body - 8) / 4) i step_body m)

    pub ref-room : (i : ℕ) → i < (length step_body - 8) / 4 → 8 + 4 * i + 4 ≤ length step_body
    ref-room i m = omega (arith, R.steps.form s l)

  -- ---- goals and results
  pub goal_read : (i : ℕ) → i < length (rs 5) → le 4 (body_of bytes (rs 5) i) 0 ≡ (get_or P.goals i no_goal).judgment
  unfolding goal_in
  goal_read i l = sym (ap (λ (x : Goal). x.judgment) (goal_of bytes rs P R i l))

  pub result_read : (i : ℕ) → i < length (rs 6) → le 4 (body_of bytes (rs 6) i) 0 ≡ (get_or P.results i no_result).step
  unfolding result_in
  result_read i l = sym (ap (λ (x : Result). x.step) (result_of bytes rs P R i l))

  -- ---- cuts
  module _ (j : ℕ) (l : j < length (rs 7)) where
    abbrev cut_body : List ℕ
    cut_body = body_of bytes (rs 7) j

    pub cut_predicate_read : le 4 cut_body 0 ≡ (get_or P.cuts j no_cut).predicate
    unfolding cut_in
    cut_predicate_read = sym (ap (λ (x : Cut). x.predicate) (cut_of bytes rs P R j l))

    pub cut-outputs_read : (length cut_body - 4) / 4 ≡ length (get_or P.cuts j no_cut).outputs
    unfolding cut_in
    cut-outputs_read = sym (ap (λ (x : Cut). length x.outputs) (cut_of bytes rs P R j l) ∙ length-words ((length cut_body - 4) / 4) (drop 4 cut_body))

    pub cut_output_below : (i : ℕ) → i < length (get_or P.cuts j no_cut).outputs → i < (length cut_body - 4) / 4
    cut_output_below i m = omega (arith, cut-outputs_read)

    pub cut_output_read : (i : ℕ) → i < (length cut_body - 4) / 4 → le 4 cut_body (4 + 4 * i) ≡ get_or (get_or P.cuts j no_cut).outputs i 0
    unfolding cut_in
    cut_output_read i m = sym (ap (λ (x : Cut). get_or x.outputs i 0) (cut_of bytes rs P R j l) ∙ word-from 4 ((length cut_body - 4) / 4) i cut_body m)

    pub cut_output_room : (i : ℕ) → i < (length cut_body - 4) / 4 → 4 + 4 * i + 4 ≤ length cut_body
    cut_output_room i m = omega (arith, R.cuts.form j l)

  -- ---- abstract records
  pub abstract_constructor_read : (i : ℕ) → i < length (rs 8) → le 4 (body_of bytes (rs 8) i) 0 ≡ (get_or P.abstracts i no_abstract).constructor
  unfolding abstract_in
  abstract_constructor_read i l = sym (ap (λ (x : Abstract). x.constructor) (abstract_of bytes rs P R i l))

  pub abstract_position_read : (i : ℕ) → i < length (rs 8) → le 4 (body_of bytes (rs 8) i) 4 ≡ (get_or P.abstracts i no_abstract).position
  unfolding abstract_in
  abstract_position_read i l = sym (ap (λ (x : Abstract). x.position) (abstract_of bytes rs P R i l))

  -- ---- names: each is its record's key
  pub sort_named : (i : ℕ) → i < length (rs 0) → key_at bytes (get_or (rs 0) i no_place) ≡ get_or P.sorts i []
  sort_named i l = sym (sort_of bytes rs P R i l)

  pub symbol_named : (i : ℕ) → i < length (rs 1) → key_at bytes (get_or (rs 1) i no_place) ≡ (symbol_of P i).name
  symbol_named i l = (R.symbols.form i l).1 ∙ sym (ap (λ (x : Symbol). x.name) (symbol_of_law bytes rs P R i l))

  pub rule_named : (i : ℕ) → i < length (rs 2) → key_at bytes (get_or (rs 2) i no_place) ≡ (rule_of P i).name
  rule_named i l = (rule_of_law bytes rs P R i l).key

  pub goal_named : (i : ℕ) → i < length (rs 5) → key_at bytes (get_or (rs 5) i no_place) ≡ (get_or P.goals i no_goal).name
  unfolding goal_in
  goal_named i l = (R.goals.form i l).1 ∙ sym (ap (λ (x : Goal). x.name) (goal_of bytes rs P R i l))

  pub result_named : (i : ℕ) → i < length (rs 6) → key_at bytes (get_or (rs 6) i no_place) ≡ (get_or P.results i no_result).name
  unfolding result_in
  result_named i l = (R.results.form i l).1 ∙ sym (ap (λ (x : Result). x.name) (result_of bytes rs P R i l))

-- a rule's prefix word stands inside the pack
pub word_inside : (bytes work : List ℕ) (c : Catalog) (R : Readable bytes work c) (r n i : ℕ) → r < length (records_of work c 2) → n ≡ le 2 (body_of bytes (records_of work c 2) r) 0 → i < length (rule_words (rule_of R.pack r)) → 4 + 4 * n + 4 * i + 4 ≤ length bytes
word_inside bytes work c R r n i l e m =
    omega (arith, word_room bytes (records_of work c) R.pack R.reads r l n i e m, record_inside bytes work c 2 r R.cataloged (omega arith) l)

-- the result whose key is goal g's name
pub result-sought : (bytes work : List ℕ) (c : Catalog) (g : ℕ) (key : List ℕ) (s : Option ℕ) → OfPack bytes work c (λ P. (get_or P.goals g no_goal).name) key → SoughtIn bytes (records_of work c 6) key s → ResultOf bytes work c g s
result-sought bytes work c g key (Some i) named S =
    λ P R. (omega (arith, S.0, length_results bytes (records_of work c) P R), sym (result_named bytes (records_of work c) P R i S.0) ∙ S.1 ∙ named P R)
result-sought bytes work c g key None named S =
    λ P R i h e.
    let l : i < length (records_of work c 6) = omega (arith, length_results bytes (records_of work c) P R) in
    S (i, l, result_named bytes (records_of work c) P R i l ∙ e ∙ sym (named P R))

-- results have keys
pub results_keyed : keyed_kind 6 ≡ true
unfolding ◌and◌
results_keyed = refl
