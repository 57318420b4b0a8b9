-- What each test of a node, a step, a goal, a result, a cut and an abstract decides, in the order in which code makes them.
use Rattle.std.specs.Prelude.{◌≡◌, true, false, List, map, ℕ, ◌+◌, ◌*◌, ◌-◌, ◌/◌, ◌<◌, ◌≤◌, eqb, ltb, length, drop}
use Rattle.std.proofs.Common.{ap, ◌∙◌, lt-ltb, le-ltb, le-leb, eq-eqb, ne_eqb}
use Rattle.std.proofs.Math.Bool.{not}
use Rattle.std.proofs.lemmas.Bool.{lt-leb}
use Rattle.definition.specs.Test.{◌and◌, all, any, same}
use Rattle.definition.specs.Little.{le}
use Rattle.definition.specs.Pack.{prop, Goal, Result, Cut, Pack, symbol_of, rule_of, sort_of, with_node, with_step, with_goal, with_result, with_cut, with_abstract}
use Rattle.definition.specs.Frame.{good, bad, ◌>>=◌, right}
use Rattle.definition.specs.Theory.{is_name, new_name, words}
use Rattle.definition.specs.Certificate.{is_symbol, is_arguments, same_node, take_node, is_judgment, is_step, count, take_step, take_goal, take_result, take_cut, take_abstract}
use Rattle.definition.proofs.Laws.Decide.{pass_right, stop_right, and_yes, and_no_left, and_no_right, name_wrong, name_again, name_new, judgment_outside, judgment_unsorted, judgment_yes, node_by}

-- a node
module _ (P : Pack) (b : List ℕ) where
  -- the head is cut
  pub node_short : length b < 4 → take_node P b ≡ bad
  unfolding take_node
  node_short h = stop_right _ _ (lt-leb _ _ h)

  module _ (long : 4 ≤ length b) where
    -- the head is no symbol
    pub node-head : length P.symbols ≤ le 4 b 0 → take_node P b ≡ bad
    unfolding take_node
    node-head h = pass_right _ _ (le-leb _ _ long) ∙ stop_right _ _ (le-ltb _ _ h)

    module _ (head : le 4 b 0 < length P.symbols) where
      -- not as many arguments as the head asks for
      pub node-length : (length b ≡ 4 + 4 * length (symbol_of P (le 4 b 0)).inputs → ⊥) → take_node P b ≡ bad
      unfolding take_node
      node-length n = pass_right _ _ (le-leb _ _ long) ∙ pass_right _ _ (lt-ltb _ _ head) ∙ stop_right _ _ (ne_eqb _ _ n)

      module _ (whole : length b ≡ 4 + 4 * length (symbol_of P (le 4 b 0)).inputs) where
        -- not the arguments that the head asks for
        pub node_arguments : is_arguments P (symbol_of P (le 4 b 0)).inputs (words (length (symbol_of P (le 4 b 0)).inputs) (drop 4 b)) ≡ false → take_node P b ≡ bad
        unfolding take_node
        node_arguments e = pass_right _ _ (le-leb _ _ long) ∙ pass_right _ _ (lt-ltb _ _ head) ∙ pass_right _ _ (eq-eqb _ _ whole) ∙ stop_right _ _ e

        module _ (arguments : is_arguments P (symbol_of P (le 4 b 0)).inputs (words (length (symbol_of P (le 4 b 0)).inputs) (drop 4 b)) ≡ true) where
          pub node_again : any (same_node (node_by P b)) P.nodes ≡ true → take_node P b ≡ bad
          unfolding take_node
          node_again e = pass_right _ _ (le-leb _ _ long) ∙ pass_right _ _ (lt-ltb _ _ head) ∙ pass_right _ _ (eq-eqb _ _ whole) ∙ pass_right _ _ arguments ∙ stop_right _ _ (ap not e)

          pub node-taken : any (same_node (node_by P b)) P.nodes ≡ false → take_node P b ≡ good (with_node P (node_by P b))
          unfolding take_node
          node-taken e = pass_right _ _ (le-leb _ _ long) ∙ pass_right _ _ (lt-ltb _ _ head) ∙ pass_right _ _ (eq-eqb _ _ whole) ∙ pass_right _ _ arguments ∙ pass_right _ _ (ap not e)

-- a step
module _ (P : Pack) (b : List ℕ) where
  -- rule and judgment are cut
  pub step_short : length b < 8 → take_step P b ≡ bad
  unfolding take_step
  step_short h = stop_right _ _ (lt-leb _ _ h)

  module _ (long : 8 ≤ length b) where
    -- no rule
    pub step-rule : length P.rules ≤ le 4 b 0 → take_step P b ≡ bad
    unfolding take_step
    step-rule h = pass_right _ _ (le-leb _ _ long) ∙ stop_right _ _ (and_no_left (ltb (le 4 b 0) (length P.rules)) (is_judgment P (le 4 b 4)) (le-ltb _ _ h))

    module _ (rule : le 4 b 0 < length P.rules) where
      -- no judgment
      step_unjudged : is_judgment P (le 4 b 4) ≡ false → take_step P b ≡ bad
      unfolding take_step
      step_unjudged e = pass_right _ _ (le-leb _ _ long) ∙ stop_right _ _ (and_no_right (ltb (le 4 b 0) (length P.rules)) (is_judgment P (le 4 b 4)) e)

      -- no node
      pub step-node : length P.nodes ≤ le 4 b 4 → take_step P b ≡ bad
      step-node h = step_unjudged (judgment_outside P (le 4 b 4) h)

      module _ (node : le 4 b 4 < length P.nodes) where
        -- a node with no predicate on top
        pub step-judgment : (sort_of P (le 4 b 4) ≡ prop → ⊥) → take_step P b ≡ bad
        step-judgment n = step_unjudged (judgment_unsorted P (le 4 b 4) n)

        module _ (judgment : sort_of P (le 4 b 4) ≡ prop) where
          -- rule and judgment are given
          step_given : ltb (le 4 b 0) (length P.rules) and is_judgment P (le 4 b 4) ≡ true
          step_given = and_yes _ _ (lt-ltb _ _ rule) (judgment_yes P (le 4 b 4) node judgment)

          -- not as many refs as premises
          pub step-length : (length b ≡ 8 + 4 * count (rule_of P (le 4 b 0)).premises → ⊥) → take_step P b ≡ bad
          unfolding take_step
          step-length n = pass_right _ _ (le-leb _ _ long) ∙ pass_right _ _ step_given ∙ stop_right _ _ (ne_eqb _ _ n)

          module _ (whole : length b ≡ 8 + 4 * count (rule_of P (le 4 b 0)).premises) where
            -- a ref to no step
            pub step-ref : all (is_step P) (words (count (rule_of P (le 4 b 0)).premises) (drop 8 b)) ≡ false → take_step P b ≡ bad
            unfolding take_step
            step-ref e = pass_right _ _ (le-leb _ _ long) ∙ pass_right _ _ step_given ∙ pass_right _ _ (eq-eqb _ _ whole) ∙ stop_right _ _ e

            pub step-taken : all (is_step P) (words (count (rule_of P (le 4 b 0)).premises) (drop 8 b)) ≡ true → take_step P b ≡ good (with_step P (record { rule = le 4 b 0; judgment = le 4 b 4; refs = words (count (rule_of P (le 4 b 0)).premises) (drop 8 b) }))
            unfolding take_step
            step-taken e = pass_right _ _ (le-leb _ _ long) ∙ pass_right _ _ step_given ∙ pass_right _ _ (eq-eqb _ _ whole) ∙ pass_right _ _ e

-- a goal
module _ (P : Pack) (b : List ℕ) where
  -- the judgment is cut
  pub goal_short : length b < 4 → take_goal P b ≡ bad
  unfolding take_goal
  goal_short h = stop_right _ _ (lt-leb _ _ h)

  module _ (long : 4 ≤ length b) where
    -- no node
    pub goal-node : length P.nodes ≤ le 4 b 0 → take_goal P b ≡ bad
    unfolding take_goal
    goal-node h = pass_right _ _ (le-leb _ _ long) ∙ stop_right _ _ (judgment_outside P (le 4 b 0) h)

    module _ (node : le 4 b 0 < length P.nodes) where
      -- a node with no predicate on top
      pub goal-judgment : (sort_of P (le 4 b 0) ≡ prop → ⊥) → take_goal P b ≡ bad
      unfolding take_goal
      goal-judgment n = pass_right _ _ (le-leb _ _ long) ∙ stop_right _ _ (judgment_unsorted P (le 4 b 0) n)

      module _ (judgment : sort_of P (le 4 b 0) ≡ prop) where
        -- what is left to test: the name
        goal-name : take_goal P b ≡ right (new_name (drop 4 b) (map (λ (y : Goal). y.name) P.goals)) >>= λ _. good (with_goal P (record { judgment = le 4 b 0; name = drop 4 b }))
        unfolding take_goal
        goal-name = pass_right _ _ (le-leb _ _ long) ∙ pass_right _ _ (judgment_yes P (le 4 b 0) node judgment)

        pub goal_misnamed : is_name (drop 4 b) ≡ false → take_goal P b ≡ bad
        goal_misnamed e = goal-name ∙ stop_right _ _ (name_wrong _ _ e)

        module _ (named : is_name (drop 4 b) ≡ true) where
          pub goal_again : any (same (drop 4 b)) (map (λ (y : Goal). y.name) P.goals) ≡ true → take_goal P b ≡ bad
          goal_again e = goal-name ∙ stop_right _ _ (name_again _ _ e)

          pub goal-taken : any (same (drop 4 b)) (map (λ (y : Goal). y.name) P.goals) ≡ false → take_goal P b ≡ good (with_goal P (record { judgment = le 4 b 0; name = drop 4 b }))
          goal-taken e = goal-name ∙ pass_right _ _ (name_new _ _ named e)

-- a result
module _ (P : Pack) (b : List ℕ) where
  -- the step is cut
  pub result_short : length b < 4 → take_result P b ≡ bad
  unfolding take_result
  result_short h = stop_right _ _ (lt-leb _ _ h)

  module _ (long : 4 ≤ length b) where
    -- no step
    pub result-step : length P.steps ≤ le 4 b 0 → take_result P b ≡ bad
    unfolding take_result
    result-step h = pass_right _ _ (le-leb _ _ long) ∙ stop_right _ _ (le-ltb _ _ h)

    module _ (step : le 4 b 0 < length P.steps) where
      -- what is left to test: the name
      result-name : take_result P b ≡ right (new_name (drop 4 b) (map (λ (y : Result). y.name) P.results)) >>= λ _. good (with_result P (record { step = le 4 b 0; name = drop 4 b }))
      unfolding take_result
      result-name = pass_right _ _ (le-leb _ _ long) ∙ pass_right _ _ (lt-ltb _ _ step)

      pub result_misnamed : is_name (drop 4 b) ≡ false → take_result P b ≡ bad
      result_misnamed e = result-name ∙ stop_right _ _ (name_wrong _ _ e)

      module _ (named : is_name (drop 4 b) ≡ true) where
        pub result_again : any (same (drop 4 b)) (map (λ (y : Result). y.name) P.results) ≡ true → take_result P b ≡ bad
        result_again e = result-name ∙ stop_right _ _ (name_again _ _ e)

        pub result-taken : any (same (drop 4 b)) (map (λ (y : Result). y.name) P.results) ≡ false → take_result P b ≡ good (with_result P (record { step = le 4 b 0; name = drop 4 b }))
        result-taken e = result-name ∙ pass_right _ _ (name_new _ _ named e)

-- a cut
module _ (P : Pack) (b : List ℕ) where
  -- the predicate is cut
  pub cut_short : length b < 4 → take_cut P b ≡ bad
  unfolding take_cut
  cut_short h = stop_right _ _ (lt-leb _ _ h)

  module _ (long : 4 ≤ length b) where
    -- no symbol
    pub cut-symbol : length P.symbols ≤ le 4 b 0 → take_cut P b ≡ bad
    unfolding take_cut
    cut-symbol h = pass_right _ _ (le-leb _ _ long) ∙ stop_right _ _ (and_no_left (is_symbol P (le 4 b 0)) (eqb (symbol_of P (le 4 b 0)).output prop) (le-ltb _ _ h))

    module _ (symbol : le 4 b 0 < length P.symbols) where
      -- a constructor
      pub cut_predicate : ((symbol_of P (le 4 b 0)).output ≡ prop → ⊥) → take_cut P b ≡ bad
      unfolding take_cut
      cut_predicate n = pass_right _ _ (le-leb _ _ long) ∙ stop_right _ _ (and_no_right (is_symbol P (le 4 b 0)) (eqb (symbol_of P (le 4 b 0)).output prop) (ne_eqb _ _ n))

      module _ (predicate : (symbol_of P (le 4 b 0)).output ≡ prop) where
        -- the predicate is given
        cut-given : is_symbol P (le 4 b 0) and eqb (symbol_of P (le 4 b 0)).output prop ≡ true
        unfolding is_symbol
        cut-given = and_yes _ _ (lt-ltb _ _ symbol) (eq-eqb _ _ predicate)

        -- the last position is cut
        pub cut-length : (length b ≡ 4 + 4 * ((length b - 4) / 4) → ⊥) → take_cut P b ≡ bad
        unfolding take_cut
        cut-length n = pass_right _ _ (le-leb _ _ long) ∙ pass_right _ _ cut-given ∙ stop_right _ _ (ne_eqb _ _ n)

        module _ (whole : length b ≡ 4 + 4 * ((length b - 4) / 4)) where
          -- a position that is not below the arity
          pub cut_position : all (λ o. ltb o (length (symbol_of P (le 4 b 0)).inputs)) (words ((length b - 4) / 4) (drop 4 b)) ≡ false → take_cut P b ≡ bad
          unfolding take_cut
          cut_position e = pass_right _ _ (le-leb _ _ long) ∙ pass_right _ _ cut-given ∙ pass_right _ _ (eq-eqb _ _ whole) ∙ stop_right _ _ e

          module _ (positions : all (λ o. ltb o (length (symbol_of P (le 4 b 0)).inputs)) (words ((length b - 4) / 4) (drop 4 b)) ≡ true) where
            pub cut_again : any (λ (c : Cut). eqb c.predicate (le 4 b 0)) P.cuts ≡ true → take_cut P b ≡ bad
            unfolding take_cut
            cut_again e = pass_right _ _ (le-leb _ _ long) ∙ pass_right _ _ cut-given ∙ pass_right _ _ (eq-eqb _ _ whole) ∙ pass_right _ _ positions ∙ stop_right _ _ (ap not e)

            pub cut-taken : any (λ (c : Cut). eqb c.predicate (le 4 b 0)) P.cuts ≡ false → take_cut P b ≡ good (with_cut P (record { predicate = le 4 b 0; outputs = words ((length b - 4) / 4) (drop 4 b) }))
            unfolding take_cut
            cut-taken e = pass_right _ _ (le-leb _ _ long) ∙ pass_right _ _ cut-given ∙ pass_right _ _ (eq-eqb _ _ whole) ∙ pass_right _ _ positions ∙ pass_right _ _ (ap not e)

-- an abstract
module _ (P : Pack) (b : List ℕ) where
  -- one is there
  pub abstract_again : (length P.abstracts ≡ 0 → ⊥) → take_abstract P b ≡ bad
  unfolding take_abstract
  abstract_again n = stop_right _ _ (and_no_left (eqb (length P.abstracts) 0) (eqb (length b) 8) (ne_eqb _ _ n))

  module _ (first : length P.abstracts ≡ 0) where
    -- not of its length
    pub abstract-length : (length b ≡ 8 → ⊥) → take_abstract P b ≡ bad
    unfolding take_abstract
    abstract-length n = stop_right _ _ (and_no_right (eqb (length P.abstracts) 0) (eqb (length b) 8) (ne_eqb _ _ n))

    module _ (whole : length b ≡ 8) where
      -- it is the first, and of its length
      abstract-first : eqb (length P.abstracts) 0 and eqb (length b) 8 ≡ true
      abstract-first = and_yes _ _ (eq-eqb _ _ first) (eq-eqb _ _ whole)

      -- no symbol
      pub abstract-symbol : length P.symbols ≤ le 4 b 0 → take_abstract P b ≡ bad
      unfolding take_abstract
      abstract-symbol h = pass_right _ _ abstract-first ∙ stop_right _ _ (and_no_left (is_symbol P (le 4 b 0)) (not (eqb (symbol_of P (le 4 b 0)).output prop)) (le-ltb _ _ h))

      module _ (symbol : le 4 b 0 < length P.symbols) where
        -- a predicate
        pub abstract_predicate : (symbol_of P (le 4 b 0)).output ≡ prop → take_abstract P b ≡ bad
        unfolding take_abstract
        abstract_predicate e = pass_right _ _ abstract-first ∙ stop_right _ _ (and_no_right (is_symbol P (le 4 b 0)) (not (eqb (symbol_of P (le 4 b 0)).output prop)) (ap not (eq-eqb _ _ e)))

        module _ (constructor : (symbol_of P (le 4 b 0)).output ≡ prop → ⊥) where
          -- the constructor is given
          abstract-given : is_symbol P (le 4 b 0) and not (eqb (symbol_of P (le 4 b 0)).output prop) ≡ true
          unfolding is_symbol
          abstract-given = and_yes _ _ (lt-ltb _ _ symbol) (ap not (ne_eqb _ _ constructor))

          -- a position that is not below the arity
          pub abstract_position : length (symbol_of P (le 4 b 0)).inputs ≤ le 4 b 4 → take_abstract P b ≡ bad
          unfolding take_abstract
          abstract_position h = pass_right _ _ abstract-first ∙ pass_right _ _ abstract-given ∙ stop_right _ _ (le-ltb _ _ h)

          pub abstract-taken : le 4 b 4 < length (symbol_of P (le 4 b 0)).inputs → take_abstract P b ≡ good (with_abstract P (record { constructor = le 4 b 0; position = le 4 b 4 }))
          unfolding take_abstract
          abstract-taken h = pass_right _ _ abstract-first ∙ pass_right _ _ abstract-given ∙ pass_right _ _ (lt-ltb _ _ h)
