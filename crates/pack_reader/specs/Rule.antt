-- What taking up a rule answers.
use Rattle.std.specs.Prelude.{Result, Ok, Err}
use Rattle.std.specs.Prelude.{◌≡◌, refl, Bool, true, false, not, List, [], ◌∷◌, map, ℕ, zero, suc, ◌+◌, ◌*◌, ◌≤◌, ◌<◌, ltb, length, get_or, drop}
use Rattle.std.proofs.Common.{sym, ap, ◌∙◌, arith, length-drop}
use Rattle.std.proofs.lemmas.List.{length-map}
use Rattle.definition.specs.Test.{all}
use Rattle.definition.specs.Little.{le}
use Rattle.definition.specs.Pack.{Pack, Rule, no_rule, with_rule}
use Rattle.definition.specs.Frame.{good, bad, over}
use Rattle.definition.specs.Theory.{is_name, words, is_sort, take_rule}
use Rattle.definition.proofs.Laws.Decide.{sorts-all}
use Rattle.definition.proofs.Laws.Prefix.{RuleRead, rule_good}
use Rattle.definition.proofs.Laws.DecideRule.{vars_in, terms_in, rule_in, rule-count, rule-many, rule_short, rule_variables, rule-premises, rule-length, rule-sorts, rule_terms_bad, rule_terms_over, rule_misnamed, rule_again, rule-taken}
use Rattle.pack_tables.specs.Place.{Place, key_at, body_at}
use Rattle.pack_tables.specs.Catalog.{records_of, EnteringIn, EntersIn, FindsIn}
use Rattle.pack_tables.specs.declared.region.Entered.TheVariants.{New, Old}
use Rattle.pack_tables.specs.declared.catalog.Catalog.{Catalog}
use Rattle.pack_read.specs.Reads.{Reads, RuleIn, RulesIn, length-sorts, read_rule}
use Rattle.pack_tables.specs.Name.{denied, not_denied}
use Rattle.pack_reader.specs.Taking.{Reading, Whole, behind, Takes, body-at, key-at, may_enter, read_on, one_more, refused-takes, Names, names_there, names_not_there}
use Rattle.pack_reader.specs.Terms.{unread_at}
use Rattle.pack_reader.specs.TermsRun.{run_terms, Ended, TermsRead}
use Rattle.pack_reader.specs.declared.taken.Fault.{Fault}
use Rattle.pack_reader.specs.declared.taken.Fault.TheVariants.{Bad, Over}

-- ---- the variables and premises, by the number of sorts
pub record Counted (body : List ℕ) (sorts vars premises : ℕ) : Type 0 where
  pub long : 4 ≤ length body
  pub variables : vars ≡ le 2 body 0
  pub judgments : premises ≡ le 2 body 2
  pub few_variables : vars ≤ 64
  pub few_premises : premises ≤ 16
  pub whole : 4 + 4 * vars ≤ length body
  pub sorted : (P : Pack) → length P.sorts ≡ sorts → all (is_sort P) (vars_in body) ≡ true

abbrev pub Counts : List ℕ → ℕ → Result (ℕ × ℕ) Fault → Type 0
Counts body sorts (Ok (vars, premises)) = Counted body sorts vars premises
Counts body sorts (Err Bad) = (P : Pack) → length P.sorts ≡ sorts → length P.rules < 4096 → take_rule P body ≡ bad
Counts body sorts (Err Over) = (P : Pack) → length P.sorts ≡ sorts → length P.rules < 4096 → take_rule P body ≡ over

module _ (body : List ℕ) (sorts : ℕ) where
  -- the counts are cut
  pub short_rule : length body < 4 → Counts body sorts (Err Bad)
  short_rule h P l few = rule_short P body few h

  module _ (long : 4 ≤ length body) (v : ℕ) (variables : v ≡ le 2 body 0) where
    pub variables_rule : 64 < v → Counts body sorts (Err Over)
    variables_rule h P l few = rule_variables P body few long (omega (arith, variables))

    module _ (few_variables : v ≤ 64) (n : ℕ) (judgments : n ≡ le 2 body 2) where
      pub premises-rule : 16 < n → Counts body sorts (Err Over)
      premises-rule h P l few = rule-premises P body few long (omega (arith, judgments))

      module _ (few_premises : n ≤ 16) where
        -- the variables' sorts are cut
        pub cut-rule : length body < 4 + 4 * v → Counts body sorts (Err Bad)
        cut-rule h P l few = rule-length P body few long (omega (arith, variables)) (omega (arith, judgments)) (omega (arith, variables))

        module _ (whole : 4 + 4 * v ≤ length body) (d : Bool) (is-in : d ≡ all (λ w. ltb w sorts) (words v (drop 4 body))) where
          -- the test of the sorts, in the definition's words
          sorts_are : (P : Pack) → length P.sorts ≡ sorts → all (λ w. ltb w sorts) (words v (drop 4 body)) ≡ all (is_sort P) (vars_in body)
          sorts_are P l = ap (λ (k : ℕ). all (λ w. ltb w k) (words v (drop 4 body))) (sym l) ∙ ap (λ (k : ℕ). all (λ w. ltb w (length P.sorts)) (words k (drop 4 body))) variables ∙ sym (sorts-all P _)

          -- a variable of no sort
          pub unsorted_rule : not d ≡ true → Counts body sorts (Err Bad)
          unsorted_rule e P l few = rule-sorts P body few long (omega (arith, variables)) (omega (arith, judgments)) (omega (arith, variables)) (denied d _ (is-in ∙ sorts_are P l) e)

          pub counted-rule : not d ≡ false → Counts body sorts (Ok (v, n))
          counted-rule e = record {
            long = long;
            variables = variables;
            judgments = judgments;
            few_variables = few_variables;
            few_premises = few_premises;
            whole = whole;
            sorted = λ P l. not_denied d _ (is-in ∙ sorts_are P l) e;
          }

-- ---- the form of a body
-- all is good but for the name, which starts at n and may be taken
pub record Formed (bytes : List ℕ) (rs : ℕ → List Place) (body : List ℕ) (n : ℕ) : Type 0 where
  pub long : 4 ≤ length body
  pub variables : le 2 body 0 ≤ 64
  pub premises : le 2 body 2 ≤ 16
  pub whole : 4 + 4 * le 2 body 0 ≤ length body
  pub sorted : (P : Pack) → Reads bytes rs P → all (is_sort P) (vars_in body) ≡ true
  pub count : ℕ
  pub inside : n ≤ length body
  pub read : (P : Pack) → Reads bytes rs P → RuleRead P (vars_in body) (le 2 body 2) (terms_in body) (unread_at body n count)
  pub named : is_name (drop n body) ≡ true

abbrev pub Forms : List ℕ → (ℕ → List Place) → List ℕ → Result ℕ Fault → Type 0
Forms bytes rs body (Ok n) = Formed bytes rs body n
Forms bytes rs body (Err Bad) = (P : Pack) → Reads bytes rs P → length P.rules < 4096 → take_rule P body ≡ bad
Forms bytes rs body (Err Over) = (P : Pack) → Reads bytes rs P → length P.rules < 4096 → take_rule P body ≡ over

module _ (bytes : List ℕ) (rs : ℕ → List Place) (body : List ℕ) (sorts : ℕ) (counted : sorts ≡ length (rs 0)) where
  many : (P : Pack) → Reads bytes rs P → length P.sorts ≡ sorts
  many P r = length-sorts bytes rs P r ∙ sym counted

  pub counts_wrong : Counts body sorts (Err Bad) → Forms bytes rs body (Err Bad)
  counts_wrong C P r = C P (many P r)

  pub counts_wide : Counts body sorts (Err Over) → Forms bytes rs body (Err Over)
  counts_wide C P r = C P (many P r)

  pub counts_faulty : (f : Fault) → Counts body sorts (Err f) → Forms bytes rs body (Err f)
  counts_faulty Bad = counts_wrong
  counts_faulty Over = counts_wide

  module _ (v n : ℕ) (C : Counted body sorts v n) where
    variables : le 2 body 0 ≤ 64
    variables = omega (arith, C.variables, C.few_variables)

    premises : le 2 body 2 ≤ 16
    premises = omega (arith, C.judgments, C.few_premises)

    whole : 4 + 4 * le 2 body 0 ≤ length body
    whole = omega (arith, C.variables, C.whole)

    -- the run, by the body's own numbers
    run_is : (P : Pack) → run_terms P body (le 2 body 0) (le 2 body 2) ≡ run_terms P body v n
    run_is P = ap (λ (k : ℕ). run_terms P body k (le 2 body 2)) (sym C.variables) ∙ ap (λ (k : ℕ). run_terms P body v k) (sym C.judgments)

    pub terms_wrong : TermsRead bytes rs body v n (Err Bad) → Forms bytes rs body (Err Bad)
    terms_wrong T P r few = rule_terms_bad P body few C.long variables premises whole (C.sorted P (many P r)) (run_is P ∙ T P r)

    pub terms_wide : TermsRead bytes rs body v n (Err Over) → Forms bytes rs body (Err Over)
    terms_wide T P r few = rule_terms_over P body few C.long variables premises whole (C.sorted P (many P r)) (run_is P ∙ T P r)

    pub terms_faulty : (f : Fault) → TermsRead bytes rs body v n (Err f) → Forms bytes rs body (Err f)
    terms_faulty Bad = terms_wrong
    terms_faulty Over = terms_wide

    module _ (e : ℕ) (E : Ended bytes rs body v n e) where
      read : (P : Pack) → Reads bytes rs P → RuleRead P (vars_in body) (le 2 body 2) (terms_in body) (unread_at body e E.count)
      read P r = rule_good P (vars_in body) (le 2 body 2) (terms_in body) (unread_at body e E.count) (run_is P ∙ E.run P r)

      pub misnamed_rule : is_name (drop e body) ≡ false → Forms bytes rs body (Err Bad)
      misnamed_rule m P r few = rule_misnamed P body few C.long variables premises whole (C.sorted P (many P r)) _ (read P r) m

      pub formed_rule : is_name (drop e body) ≡ true → Forms bytes rs body (Ok e)
      formed_rule m = record {
        long = C.long;
        variables = variables;
        premises = premises;
        whole = whole;
        sorted = λ P r. C.sorted P (many P r);
        count = E.count;
        inside = E.inside;
        read = read;
        named = m;
      }

-- ---- the record
name-at : (rules : List Rule) (i : ℕ) → i < length rules → get_or (map (λ (y : Rule). y.name) rules) i [] ≡ (get_or rules i no_rule).name
name-at [] i h = absurd (omega arith)
name-at (r ∷ rules) zero h = refl
name-at (r ∷ rules) (suc i) h = name-at rules i (omega arith)

rule_names : (bytes : List ℕ) (rules : List Rule) (ps : List Place) → RulesIn bytes rules ps → Names bytes (map (λ (y : Rule). y.name) rules) ps
rule_names bytes rules ps L = record {
  many = length-map rules (λ (y : Rule). y.name) ∙ L.many;
  each = λ i h. name-at rules i (omega (arith, L.many)) ∙ sym (L.each i h).key;
}

module _ (bytes work body : List ℕ) (c : Catalog) (at : ℕ) (R : Reading bytes work c at) (W : Whole bytes body at) where
  abbrev rs : ℕ → List Place
  rs = records_of work c

  -- no room
  pub many-rules : 4096 ≤ length (rs 2) → Takes bytes work work c 2 (behind at body) (λ P. take_rule P body) (Err Over)
  many-rules h P r = rule-many P body (omega (arith, r.rules.many))

  module _ (room : length (rs 2) < 4096) where
    few : (P : Pack) → Reads bytes rs P → length P.rules < 4096
    few P r = omega (arith, r.rules.many)

    pub wrong_rule : Forms bytes rs body (Err Bad) → Takes bytes work work c 2 (behind at body) (λ P. take_rule P body) (Err Bad)
    wrong_rule S P r = S P r (few P r)

    pub wide_rule : Forms bytes rs body (Err Over) → Takes bytes work work c 2 (behind at body) (λ P. take_rule P body) (Err Over)
    wide_rule S P r = S P r (few P r)

    pub faulty-rule : (f : Fault) → Forms bytes rs body (Err f) → Takes bytes work work c 2 (behind at body) (λ P. take_rule P body) (Err f)
    faulty-rule Bad = wrong_rule
    faulty-rule Over = wide_rule

    module _ (n : ℕ) (F : Formed bytes rs body n) where
      abbrev place : Place
      place = record { at = at; from = at + 6 + n }

      body_is : body_at bytes place ≡ body
      body_is = body-at bytes body at (at + 6 + n) W

      key_is : key_at bytes place ≡ drop n body
      key_is = key-at bytes body at n W F.inside

      -- the rule is in its body
      form : (P : Pack) (r : Reads bytes rs P) → RuleIn bytes place (rule_in P body (unread_at body n F.count) (F.read P r))
      form P r =
          let b = (F.read P r).between in
          record {
            vars = ap vars_in (sym body_is);
            premises = rule-count P body _ (F.read P r) ∙ ap (λ (s : List ℕ). le 2 s 2) (sym body_is);
            terms = rw body_is b.0;
            room = rw body_is (omega (arith, b.3, F.whole, length-drop (4 + 4 * le 2 body 0) body));
            key = key_is;
          }

      -- the name starts inside the pack
      pub inside_rule : at + 6 + n ≤ length bytes
      inside_rule = omega (arith, F.inside, W.inside)

      pub enter_rule : EnteringIn bytes work c 2 place
      enter_rule = may_enter bytes work body c at 2 n R W (omega (arith, F.long)) F.inside (omega arith) (λ h. omega arith)

      takes : (P : Pack) (r : Reads bytes rs P) → (FindsIn bytes (rs 2) (key_at bytes place) → ⊥) → take_rule P body ≡ good (with_rule P (rule_in P body (unread_at body n F.count) (F.read P r)))
      takes P r none =
          rule-taken P body (few P r) F.long F.variables F.premises F.whole (F.sorted P r) _ (F.read P r) F.named
          (names_not_there bytes _ (rs 2) (drop n body) (rule_names bytes P.rules (rs 2) r.rules) (λ f. none (f.0, f.1, f.2 ∙ sym key_is)))

      pub new-rule : (work' : List ℕ) → EntersIn bytes work work' c 2 place New → Takes bytes work work' c 2 (behind at body) (λ P. take_rule P body) (Ok tt)
      new-rule work' E =
          let m = one_more bytes work work' c 2 place E.1 in
          record {
            reading = read_on bytes work work' c at (behind at body) 2 place R (omega (arith, F.long)) E.1;
            outside = E.1.outside;
            place = place;
            more = m;
            says = λ P r. (with_rule P (rule_in P body (unread_at body n F.count) (F.read P r)), takes P r E.0, read_rule bytes rs (records_of work' c) P r place _ m (form P r));
          }

      pub old-rule : (work' : List ℕ) → EntersIn bytes work work' c 2 place Old → Takes bytes work work' c 2 (behind at body) (λ P. take_rule P body) (Err Bad)
      old-rule work' =
          refused-takes bytes work work' c (behind at body) 2 place (λ P. take_rule P body)
          (λ P r f. rule_again P body (few P r) F.long F.variables F.premises F.whole (F.sorted P r) _ (F.read P r) F.named
          (names_there bytes _ (rs 2) (drop n body) (rule_names bytes P.rules (rs 2) r.rules) (f.0, f.1, f.2 ∙ key_is)))
