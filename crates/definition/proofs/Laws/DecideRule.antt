-- What each test of a rule decides, in the order in which code makes them.
use Rattle.std.specs.Prelude.{◌≡◌, true, false, List, [], ◌∷◌, map, ℕ, suc, ◌+◌, ◌*◌, ◌<◌, ◌≤◌, leb, length, drop, replicate}
use Rattle.std.proofs.Common.{ap, ◌∙◌, lt-ltb, le-ltb, le-leb}
use Rattle.std.proofs.lemmas.Bool.{lt-leb}
use Rattle.definition.specs.Test.{◌and◌, all, any, same}
use Rattle.definition.specs.Little.{le}
use Rattle.definition.specs.Pack.{prop, Rule, Pack, with_rule}
use Rattle.definition.specs.Frame.{Checked, good, bad, over, ◌>>=◌, right}
use Rattle.definition.specs.Theory.{is_name, new_name, words, is_sort, Unread, Prefix, prefix, only, take_rule}
use Rattle.definition.specs.Certificate.{count}
use Rattle.definition.proofs.Laws.TakenTheory.{prefix_sorted, judgments_read}
use Rattle.definition.proofs.Laws.Prefix.{read_all, RuleRead, rule_bad, rule-over}
use Rattle.definition.proofs.Laws.Decide.{pass_right, stop_right, pass_within, stop_within, and_yes, and_no_left, and_no_right, name_wrong, name_again, name_new}

-- what is good leads on
go_on : {A B : Type 0} (m : Checked A) (f : A → Checked B) (a : A) → m ≡ good a → m >>= f ≡ f a
unfolding ◌>>=◌
go_on m f a e = rw (e, ◌>>=◌)

-- the sorts of a rule's variables, and where its terms start
abbrev pub vars_in : List ℕ → List ℕ
vars_in b = words (le 2 b 0) (drop 4 b)

abbrev pub terms_in : List ℕ → Unread
terms_in b = record { rest = drop (4 + 4 * le 2 b 0) b; read = 0 }

-- the rule of terms that were read up to v
abbrev pub rule_in : (P : Pack) (b : List ℕ) (v : Unread) → RuleRead P (vars_in b) (le 2 b 2) (terms_in b) v → Rule
rule_in P b v R = record { vars = vars_in b; premises = R.ps.terms; conclusion = only R.c.terms; name = v.rest }

-- it has as many premises as its body says
pub rule-count : (P : Pack) (b : List ℕ) (v : Unread) (R : RuleRead P (vars_in b) (le 2 b 2) (terms_in b) v) → count R.ps.terms ≡ le 2 b 2
rule-count P b v R = (judgments_read P (vars_in b) (le 2 b 2) R.ps.terms (prefix_sorted 256 P (vars_in b) (replicate (le 2 b 2) prop) (terms_in b) R.ps R.premises)).1

module _ (P : Pack) (b : List ℕ) where
  -- the name's test, and what it leads to
  abbrev ending : Prefix → Prefix → Checked Pack
  ending ps c = right (new_name c.unread.rest (map (λ (y : Rule). y.name) P.rules)) >>= λ _. good (with_rule P (record { vars = vars_in b; premises = ps.terms; conclusion = only c.terms; name = c.unread.rest }))

  -- no room
  pub rule-many : 4096 ≤ length P.rules → take_rule P b ≡ over
  unfolding take_rule
  rule-many h = stop_within _ _ (le-ltb _ _ h)

  module _ (few : length P.rules < 4096) where
    -- the counts are cut
    pub rule_short : length b < 4 → take_rule P b ≡ bad
    unfolding take_rule
    rule_short h = pass_within _ _ (lt-ltb _ _ few) ∙ stop_right _ _ (lt-leb _ _ h)

    module _ (long : 4 ≤ length b) where
      -- too many variables
      pub rule_variables : 64 < le 2 b 0 → take_rule P b ≡ over
      unfolding take_rule
      rule_variables h =
          pass_within _ _ (lt-ltb _ _ few) ∙ pass_right _ _ (le-leb _ _ long)
          ∙ stop_within _ _ (and_no_left (leb (le 2 b 0) 64) (leb (le 2 b 2) 16) (lt-leb _ _ h))

      -- too many premises
      pub rule-premises : 16 < le 2 b 2 → take_rule P b ≡ over
      unfolding take_rule
      rule-premises h =
          pass_within _ _ (lt-ltb _ _ few) ∙ pass_right _ _ (le-leb _ _ long)
          ∙ stop_within _ _ (and_no_right (leb (le 2 b 0) 64) (leb (le 2 b 2) 16) (lt-leb _ _ h))

      module _ (variables : le 2 b 0 ≤ 64) (premises : le 2 b 2 ≤ 16) where
        small : leb (le 2 b 0) 64 and leb (le 2 b 2) 16 ≡ true
        small = and_yes (leb (le 2 b 0) 64) (leb (le 2 b 2) 16) (le-leb _ _ variables) (le-leb _ _ premises)

        -- the variables' sorts are cut
        pub rule-length : length b < 4 + 4 * le 2 b 0 → take_rule P b ≡ bad
        unfolding take_rule
        rule-length h = pass_within _ _ (lt-ltb _ _ few) ∙ pass_right _ _ (le-leb _ _ long) ∙ pass_within _ _ small ∙ stop_right _ _ (lt-leb _ _ h)

        module _ (whole : 4 + 4 * le 2 b 0 ≤ length b) where
          -- a variable of no sort
          pub rule-sorts : all (is_sort P) (vars_in b) ≡ false → take_rule P b ≡ bad
          unfolding take_rule
          rule-sorts e =
              pass_within _ _ (lt-ltb _ _ few) ∙ pass_right _ _ (le-leb _ _ long) ∙ pass_within _ _ small ∙ pass_right _ _ (le-leb _ _ whole)
              ∙ stop_right _ _ e

          module _ (sorts : all (is_sort P) (vars_in b) ≡ true) where
            -- what is left to read: the terms, and the name
            rule-rest : take_rule P b ≡ prefix 256 P (vars_in b) (replicate (le 2 b 2) prop) (terms_in b) >>= λ ps. prefix 256 P (vars_in b) (prop ∷ []) ps.unread >>= λ c. ending ps c
            unfolding take_rule
            rule-rest =
                pass_within _ _ (lt-ltb _ _ few) ∙ pass_right _ _ (le-leb _ _ long) ∙ pass_within _ _ small ∙ pass_right _ _ (le-leb _ _ whole)
                ∙ pass_right _ _ sorts

            -- terms against the form, or of too many words
            pub rule_terms_bad : read_all 256 P (vars_in b) (replicate (suc (le 2 b 2)) prop) (terms_in b) ≡ bad → take_rule P b ≡ bad
            rule_terms_bad e = rule-rest ∙ rule_bad P (vars_in b) (le 2 b 2) (terms_in b) ending e

            pub rule_terms_over : read_all 256 P (vars_in b) (replicate (suc (le 2 b 2)) prop) (terms_in b) ≡ over → take_rule P b ≡ over
            rule_terms_over e = rule-rest ∙ rule-over P (vars_in b) (le 2 b 2) (terms_in b) ending e

            module _ (v : Unread) (R : RuleRead P (vars_in b) (le 2 b 2) (terms_in b) v) where
              -- what is left to test: the name
              rule-name : take_rule P b ≡ right (new_name v.rest (map (λ (y : Rule). y.name) P.rules)) >>= λ _. good (with_rule P (rule_in P b v R))
              rule-name =
                  rule-rest
                  ∙ go_on _ _ R.ps R.premises
                  ∙ go_on _ _ R.c R.conclusion
                  ∙ ap (λ (x : Unread). right (new_name x.rest (map (λ (y : Rule). y.name) P.rules)) >>= λ _. good (with_rule P (record { vars = vars_in b; premises = R.ps.terms; conclusion = only R.c.terms; name = x.rest }))) R.left

              pub rule_misnamed : is_name v.rest ≡ false → take_rule P b ≡ bad
              rule_misnamed e = rule-name ∙ stop_right _ _ (name_wrong _ _ e)

              module _ (named : is_name v.rest ≡ true) where
                pub rule_again : any (same v.rest) (map (λ (y : Rule). y.name) P.rules) ≡ true → take_rule P b ≡ bad
                rule_again e = rule-name ∙ stop_right _ _ (name_again _ _ e)

                pub rule-taken : any (same v.rest) (map (λ (y : Rule). y.name) P.rules) ≡ false → take_rule P b ≡ good (with_rule P (rule_in P b v R))
                rule-taken e = rule-name ∙ pass_right _ _ (name_new _ _ named e)
