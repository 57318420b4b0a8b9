-- What taking up a result answers.
use Rattle.std.specs.Prelude.{Ok, Err}
use Rattle.std.specs.Prelude.{◌≡◌, true, false, List, map, ℕ, ◌+◌, ◌≤◌, ◌<◌, length, drop}
use Rattle.std.proofs.Common.{sym, ◌∙◌, arith}
use Rattle.std.proofs.Math.Path.{ap}
use Rattle.definition.specs.Little.{le}
use Rattle.definition.specs.Pack.{Pack, Result, with_result}
use Rattle.definition.specs.Frame.{good}
use Rattle.definition.specs.Theory.{is_name}
use Rattle.definition.specs.Certificate.{take_result}
use Rattle.definition.proofs.Laws.DecideCertificate.{result_short, result-step, result_misnamed, result_again, result-taken}
use Rattle.pack_tables.specs.Place.{Place, key_at, body_at}
use Rattle.pack_tables.specs.Catalog.{records_of, EnteringIn, EntersIn}
use Rattle.pack_tables.specs.declared.region.Entered.TheVariants.{New, Old}
use Rattle.pack_tables.specs.declared.catalog.Catalog.{Catalog}
use Rattle.pack_read.specs.Body.{result_in}
use Rattle.pack_read.specs.Reads.{Reads, GoalForm, length_steps, read_result}
use Rattle.pack_reader.specs.Taking.{Reading, Whole, behind, Takes, body-at, key-at, may_enter, entered_takes, refused-takes, Names, names_there, names_not_there}
use Rattle.pack_reader.specs.Named.{listed_names}
use Rattle.pack_reader.specs.declared.taken.Fault.TheVariants.{Bad}

module _ (bytes work body : List ℕ) (c : Catalog) (at : ℕ) (R : Reading bytes work c at) (W : Whole bytes body at) where
  abbrev place : Place
  place = record { at = at; from = at + 6 + 4 }

  abbrev rs : ℕ → List Place
  rs = records_of work c

  names : (P : Pack) → Reads bytes rs P → Names bytes (map (λ (y : Result). y.name) P.results) (rs 6)
  unfolding result_in
  names P r = listed_names bytes (λ p. result_in (body_at bytes p)) (GoalForm bytes) (λ y. y.name) P.results (rs 6) (λ p F. F.1) r.results

  -- the step is cut
  pub short_result : length body < 4 → Takes bytes work work c 6 (behind at body) (λ P. take_result P body) (Err Bad)
  short_result h P r = result_short P body h

  module _ (long : 4 ≤ length body) where
    body_is : body_at bytes place ≡ body
    body_is = body-at bytes body at (at + 6 + 4) W

    key_is : key_at bytes place ≡ drop 4 body
    key_is = key-at bytes body at 4 W long

    form : GoalForm bytes place
    form = (rw body_is long, key_is ∙ ap (drop 4) (sym body_is))

    result_is : result_in (body_at bytes place) ≡ record { step = le 4 body 0; name = drop 4 body }
    unfolding result_in
    result_is = ap result_in body_is

    -- no step
    pub stepless_result : length (rs 4) ≤ le 4 body 0 → Takes bytes work work c 6 (behind at body) (λ P. take_result P body) (Err Bad)
    stepless_result h P r = result-step P body long (omega (arith, length_steps bytes rs P r))

    module _ (step : le 4 body 0 < length (rs 4)) where
      stepped : (P : Pack) → Reads bytes rs P → le 4 body 0 < length P.steps
      stepped P r = omega (arith, length_steps bytes rs P r)

      pub misnamed_result : is_name (drop 4 body) ≡ false → Takes bytes work work c 6 (behind at body) (λ P. take_result P body) (Err Bad)
      misnamed_result e P r = result_misnamed P body long (stepped P r) e

      module _ (named : is_name (drop 4 body) ≡ true) where
        pub enter_result : EnteringIn bytes work c 6 place
        enter_result = may_enter bytes work body c at 6 4 R W (omega arith) long (omega arith) (λ h. absurd (omega arith))

        pub new-result : (work' : List ℕ) → EntersIn bytes work work' c 6 place New → Takes bytes work work' c 6 (behind at body) (λ P. take_result P body) (Ok tt)
        new-result work' =
            entered_takes bytes work work' c at (behind at body) 6 place (λ P. take_result P body) (λ P. with_result P (result_in (body_at bytes place))) R (omega arith)
            (λ P r n. result-taken P body long (stepped P r) named (names_not_there bytes _ (rs 6) (drop 4 body) (names P r) (λ f. n (f.0, f.1, f.2 ∙ sym key_is))) ∙ ap (λ (y : Result). good (with_result P y)) (sym result_is))
            (λ P r M. read_result bytes rs (records_of work' c) P r place M form)

        pub old-result : (work' : List ℕ) → EntersIn bytes work work' c 6 place Old → Takes bytes work work' c 6 (behind at body) (λ P. take_result P body) (Err Bad)
        old-result work' =
            refused-takes bytes work work' c (behind at body) 6 place (λ P. take_result P body)
            (λ P r f. result_again P body long (stepped P r) named (names_there bytes _ (rs 6) (drop 4 body) (names P r) (f.0, f.1, f.2 ∙ key_is)))
