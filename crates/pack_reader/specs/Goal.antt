-- What taking up a goal answers.
use Rattle.std.specs.Prelude.{Ok, Err}
use Rattle.std.specs.Prelude.{◌≡◌, true, false, List, map, ℕ, ◌+◌, ◌≤◌, ◌<◌, length, drop}
use Rattle.std.proofs.Common.{sym, ◌∙◌, arith}
use Rattle.std.proofs.Math.Path.{ap}
use Rattle.definition.specs.Little.{le}
use Rattle.definition.specs.Pack.{prop, Pack, Goal, node_of, sort_of, with_goal}
use Rattle.definition.specs.Frame.{good}
use Rattle.definition.specs.Theory.{is_name}
use Rattle.definition.specs.Certificate.{take_goal}
use Rattle.definition.proofs.Laws.DecideCertificate.{goal_short, goal-node, goal-judgment, goal_misnamed, goal_again, goal-taken}
use Rattle.pack_tables.specs.Place.{Place, key_at, body_at}
use Rattle.pack_tables.specs.Catalog.{records_of, Cataloged, EnteringIn, EntersIn}
use Rattle.pack_tables.specs.declared.region.Entered.TheVariants.{New, Old}
use Rattle.pack_tables.specs.declared.catalog.Catalog.{Catalog}
use Rattle.pack_read.specs.Body.{goal_in}
use Rattle.pack_read.specs.Reads.{Reads, GoalForm, length-nodes, read_goal}
use Rattle.pack_read.specs.Says.{Readable, OfPack}
use Rattle.pack_reader.specs.Taking.{Reading, Whole, behind, Takes, body-at, key-at, may_enter, entered_takes, refused-takes, Names, names_there, names_not_there}
use Rattle.pack_reader.specs.Named.{listed_names}
use Rattle.pack_reader.specs.Sound.{Sound}
use Rattle.pack_reader.specs.declared.taken.Fault.TheVariants.{Bad}

-- the sort of a node can be read
pub node_sorted : (bytes work : List ℕ) (c : Catalog) (n : ℕ) → Cataloged bytes work c → Sound bytes work c → n < length (records_of work c 3)
    → ((R : Readable bytes work c) × (n < length (records_of work c 3)) × ((node_of R.pack n).head < length R.pack.symbols))
node_sorted bytes work c n C S h =
    (record { cataloged = C; pack = S.pack; reads = S.reads }, h, S.headed S.pack S.reads n (omega (arith, length-nodes bytes (records_of work c) S.pack S.reads)))

module _ (bytes work body : List ℕ) (c : Catalog) (at : ℕ) (R : Reading bytes work c at) (W : Whole bytes body at) where
  abbrev place : Place
  place = record { at = at; from = at + 6 + 4 }

  abbrev rs : ℕ → List Place
  rs = records_of work c

  names : (P : Pack) → Reads bytes rs P → Names bytes (map (λ (y : Goal). y.name) P.goals) (rs 5)
  unfolding goal_in
  names P r = listed_names bytes (λ p. goal_in (body_at bytes p)) (GoalForm bytes) (λ y. y.name) P.goals (rs 5) (λ p F. F.1) r.goals

  -- the judgment is cut
  pub short_goal : length body < 4 → Takes bytes work work c 5 (behind at body) (λ P. take_goal P body) (Err Bad)
  short_goal h P r = goal_short P body h

  module _ (long : 4 ≤ length body) where
    body_is : body_at bytes place ≡ body
    body_is = body-at bytes body at (at + 6 + 4) W

    key_is : key_at bytes place ≡ drop 4 body
    key_is = key-at bytes body at 4 W long

    form : GoalForm bytes place
    form = (rw body_is long, key_is ∙ ap (drop 4) (sym body_is))

    goal_is : goal_in (body_at bytes place) ≡ record { judgment = le 4 body 0; name = drop 4 body }
    unfolding goal_in
    goal_is = ap goal_in body_is

    -- no node
    pub nodeless_goal : length (rs 3) ≤ le 4 body 0 → Takes bytes work work c 5 (behind at body) (λ P. take_goal P body) (Err Bad)
    nodeless_goal h P r = goal-node P body long (omega (arith, length-nodes bytes rs P r))

    module _ (node : le 4 body 0 < length (rs 3)) where
      noded : (P : Pack) → Reads bytes rs P → le 4 body 0 < length P.nodes
      noded P r = omega (arith, length-nodes bytes rs P r)

      -- a node with no predicate on top
      pub unjudged_goal : (s : ℕ) → OfPack bytes work c (λ P. sort_of P (le 4 body 0)) s → (s ≡ prop → ⊥) → Takes bytes work work c 5 (behind at body) (λ P. take_goal P body) (Err Bad)
      unjudged_goal s e n P r = goal-judgment P body long (noded P r) (λ q. n (e P r ∙ q))

      module _ (s : ℕ) (sort : OfPack bytes work c (λ P. sort_of P (le 4 body 0)) s) (predicate : s ≡ prop) where
        judged : (P : Pack) → Reads bytes rs P → sort_of P (le 4 body 0) ≡ prop
        judged P r = sym (sort P r) ∙ predicate

        pub misnamed_goal : is_name (drop 4 body) ≡ false → Takes bytes work work c 5 (behind at body) (λ P. take_goal P body) (Err Bad)
        misnamed_goal e P r = goal_misnamed P body long (noded P r) (judged P r) e

        module _ (named : is_name (drop 4 body) ≡ true) where
          pub enter_goal : EnteringIn bytes work c 5 place
          enter_goal = may_enter bytes work body c at 5 4 R W (omega arith) long (omega arith) (λ h. absurd (omega arith))

          pub new-goal : (work' : List ℕ) → EntersIn bytes work work' c 5 place New → Takes bytes work work' c 5 (behind at body) (λ P. take_goal P body) (Ok tt)
          new-goal work' =
              entered_takes bytes work work' c at (behind at body) 5 place (λ P. take_goal P body) (λ P. with_goal P (goal_in (body_at bytes place))) R (omega arith)
              (λ P r n. goal-taken P body long (noded P r) (judged P r) named (names_not_there bytes _ (rs 5) (drop 4 body) (names P r) (λ f. n (f.0, f.1, f.2 ∙ sym key_is))) ∙ ap (λ (y : Goal). good (with_goal P y)) (sym goal_is))
              (λ P r M. read_goal bytes rs (records_of work' c) P r place M form)

          pub old-goal : (work' : List ℕ) → EntersIn bytes work work' c 5 place Old → Takes bytes work work' c 5 (behind at body) (λ P. take_goal P body) (Err Bad)
          old-goal work' =
              refused-takes bytes work work' c (behind at body) 5 place (λ P. take_goal P body)
              (λ P r f. goal_again P body long (noded P r) (judged P r) named (names_there bytes _ (rs 5) (drop 4 body) (names P r) (f.0, f.1, f.2 ∙ key_is)))
