-- What taking up a step answers.
use Rattle.std.specs.Prelude.{Ok, Err}
use Rattle.std.specs.Prelude.{◌≡◌, Bool, true, false, not, List, ℕ, ◌+◌, ◌*◌, ◌-◌, ◌/◌, ◌≤◌, ◌<◌, ltb, length, drop}
use Rattle.std.proofs.Math.Path.{sym}
use Rattle.std.proofs.Common.{ap, ◌∙◌, subst, arith}
use Rattle.definition.specs.Test.{all}
use Rattle.definition.specs.Little.{le}
use Rattle.definition.specs.Pack.{prop, Step, Pack, rule_of, sort_of, node_of, with_step}
use Rattle.definition.specs.Frame.{good}
use Rattle.definition.specs.Theory.{words}
use Rattle.definition.specs.Certificate.{count, is_step, take_step}
use Rattle.definition.proofs.Laws.Decide.{steps_all}
use Rattle.definition.proofs.Laws.DecideCertificate.{step_short, step-rule, step-node, step-judgment, step-length, step-ref, step-taken}
use Rattle.pack_tables.specs.Place.{Place, body_at}
use Rattle.pack_tables.specs.Catalog.{records_of, EnteringIn, More}
use Rattle.pack_tables.specs.declared.catalog.Catalog.{Catalog}
use Rattle.pack_read.specs.Body.{body_of, step_in}
use Rattle.pack_read.specs.Reads.{Reads, StepForm, length-nodes, length_steps, read_step}
use Rattle.pack_read.specs.Says.{OfPack}
use Rattle.pack_tables.specs.Name.{denied, not_denied}
use Rattle.pack_reader.specs.Taking.{Reading, Whole, behind, Takes, body-at, may_enter, pushed-takes}
use Rattle.pack_reader.specs.Sound.{Sound}
use Rattle.pack_reader.specs.declared.taken.Fault.TheVariants.{Bad}

-- the step that a body gives, by its number of refs
abbrev step_by_of : ℕ → List ℕ → Step
step_by_of n b = record { rule = le 4 b 0; judgment = le 4 b 4; refs = words n (drop 8 b) }

step_by : (n : ℕ) (b : List ℕ) → length b ≡ 8 + 4 * n → step_in b ≡ step_by_of n b
unfolding step_in
step_by n b h = let e : (length b - 8) / 4 ≡ n = omega arith in ap (λ (k : ℕ). record { rule = le 4 b 0; judgment = le 4 b 4; refs = words k (drop 8 b) }) e

module _ (bytes work body : List ℕ) (c : Catalog) (at : ℕ) (R : Reading bytes work c at) (W : Whole bytes body at) (S : Sound bytes work c) where
  abbrev place : Place
  place = record { at = at; from = at + 6 }

  abbrev rs : ℕ → List Place
  rs = records_of work c

  body_is : body_at bytes place ≡ body
  body_is = body-at bytes body at (at + 6) W

  -- a node's head is a symbol
  pub judgment-headed : (n : ℕ) → n < length (rs 3) → (node_of S.pack n).head < length S.pack.symbols
  judgment-headed n h = S.headed S.pack S.reads n (omega (arith, length-nodes bytes rs S.pack S.reads))

  -- a rule's body holds its counts
  pub rule_long : (i : ℕ) → i < length (rs 2) → 2 + 2 ≤ length (body_of bytes (rs 2) i)
  rule_long i h = omega (arith, (S.reads.rules.each i h).room)

  premises_are : (i n : ℕ) → i < length (rs 2) → n ≡ le 2 (body_of bytes (rs 2) i) 2 → (P : Pack) → Reads bytes rs P → count (rule_of P i).premises ≡ n
  unfolding rule_of
  premises_are i n h e P r = (r.rules.each i h).premises ∙ sym e

  pub bad_short : length body < 8 → Takes bytes work work c 4 (behind at body) (λ P. take_step P body) (Err Bad)
  bad_short h P r = step_short P body h

  module _ (long : 8 ≤ length body) (rule : ℕ) (rule-is : rule ≡ le 4 body 0) where
    pub bad_rule : length (rs 2) ≤ rule → Takes bytes work work c 4 (behind at body) (λ P. take_step P body) (Err Bad)
    bad_rule h P r = step-rule P body long (omega (arith, r.rules.many))

    module _ (given : rule < length (rs 2)) (judgment : ℕ) (judgment_is : judgment ≡ le 4 body 4) where
      ruled : (P : Pack) → Reads bytes rs P → le 4 body 0 < length P.rules
      ruled P r = omega (arith, r.rules.many)

      pub bad_node : length (rs 3) ≤ judgment → Takes bytes work work c 4 (behind at body) (λ P. take_step P body) (Err Bad)
      bad_node h P r = step-node P body long (ruled P r) (omega (arith, length-nodes bytes rs P r))

      module _ (node : judgment < length (rs 3)) (s : ℕ) (sort : OfPack bytes work c (λ P. sort_of P judgment) s) where
        there : (P : Pack) → Reads bytes rs P → le 4 body 4 < length P.nodes
        there P r = omega (arith, length-nodes bytes rs P r)

        sort_is : (P : Pack) → Reads bytes rs P → sort_of P (le 4 body 4) ≡ s
        sort_is P r = ap (sort_of P) (sym judgment_is) ∙ sym (sort P r)

        pub bad_judgment : (s ≡ prop → ⊥) → Takes bytes work work c 4 (behind at body) (λ P. take_step P body) (Err Bad)
        bad_judgment d P r = step-judgment P body long (ruled P r) (there P r) (λ e. d (sym (sort_is P r) ∙ e))

        module _ (judges : s ≡ prop) (n : ℕ) (premises : n ≡ le 2 (body_of bytes (rs 2) rule) 2) where
          judged : (P : Pack) → Reads bytes rs P → sort_of P (le 4 body 4) ≡ prop
          judged P r = sort_is P r ∙ judges

          count_is : (P : Pack) → Reads bytes rs P → count (rule_of P (le 4 body 0)).premises ≡ n
          count_is P r = ap (λ (i : ℕ). count (rule_of P i).premises) (sym rule-is) ∙ premises_are rule n given premises P r

          pub bad_length : (length body ≡ 8 + 4 * n → ⊥) → Takes bytes work work c 4 (behind at body) (λ P. take_step P body) (Err Bad)
          bad_length d P r = step-length P body long (ruled P r) (there P r) (judged P r) (λ e. d (e ∙ ap (λ (k : ℕ). 8 + 4 * k) (count_is P r)))

          module _ (whole : length body ≡ 8 + 4 * n) (bound : ℕ) (bound-is : bound ≡ length (rs 4)) (t : Bool) (answer : t ≡ all (λ w. ltb w bound) (words n (drop 8 body))) where
            whole-at : (P : Pack) → Reads bytes rs P → length body ≡ 8 + 4 * count (rule_of P (le 4 body 0)).premises
            whole-at P r = whole ∙ ap (λ (k : ℕ). 8 + 4 * k) (sym (count_is P r))

            refs_are : (P : Pack) → Reads bytes rs P → t ≡ all (is_step P) (words (count (rule_of P (le 4 body 0)).premises) (drop 8 body))
            refs_are P r =
                answer ∙ ap (λ (b : ℕ). all (λ w. ltb w b) (words n (drop 8 body))) (bound-is ∙ sym (length_steps bytes rs P r)) ∙ sym (steps_all P (words n (drop 8 body)))
                ∙ ap (λ (k : ℕ). all (is_step P) (words k (drop 8 body))) (sym (count_is P r))

            -- the answer, which code negates
            pub bad_ref : not t ≡ true → Takes bytes work work c 4 (behind at body) (λ P. take_step P body) (Err Bad)
            bad_ref d P r = step-ref P body long (ruled P r) (there P r) (judged P r) (whole-at P r) (denied t _ (refs_are P r) d)

            module _ (refs : not t ≡ false) where
              pub push_step : EnteringIn bytes work c 4 place
              push_step = let e : at + 6 + 0 ≡ at + 6 = omega arith in subst (λ (f : ℕ). EnteringIn bytes work c 4 (record { at = at; from = f })) e (may_enter bytes work body c at 4 0 R W (omega (arith, long)) (omega arith) (omega arith) (λ h. absurd (omega arith)))

              form : StepForm bytes place
              form = subst (λ (b : List ℕ). 8 ≤ length b) (sym body_is) long

              step_is : (P : Pack) → Reads bytes rs P → step_by_of (count (rule_of P (le 4 body 0)).premises) body ≡ step_in (body_at bytes place)
              step_is P r = sym (ap step_in body_is ∙ step_by _ body (whole-at P r))

              pub new-step : (work' : List ℕ) → More bytes work work' c 4 place → Takes bytes work work' c 4 (behind at body) (λ P. take_step P body) (Ok tt)
              new-step work' M =
                  pushed-takes bytes work work' c at (behind at body) 4 place (λ P. take_step P body) (λ P. with_step P (step_in (body_at bytes place))) R (omega (arith, long))
                  (λ P r. step-taken P body long (ruled P r) (there P r) (judged P r) (whole-at P r) (not_denied t _ (refs_are P r) refs) ∙ ap (λ (x : Step). good (with_step P x)) (step_is P r))
                  (λ P r m. read_step bytes rs (records_of work' c) P r place m form) M
