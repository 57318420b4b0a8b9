-- All goals when all classes are made: what showing them asks, and promises.
use Rattle.std.specs.Prelude.{Result, Ok, Err}
use Rattle.std.specs.Prelude.{◌≡◌, List, ℕ, ◌+◌, ◌*◌, ◌≤◌, ◌<◌, length, get_or}
use Rattle.std.proofs.Common.{ap, arith}
use Rattle.definition.specs.Pack.{Pack}
use Rattle.definition.specs.Frame.{fine, refuse}
use Rattle.definition.specs.Answer.{Lent}
use Rattle.definition.specs.Classes.{Built, no_class}
use Rattle.definition.specs.Run.{outcome}
use Rattle.definition.specs.Goals.{Root, test_goals}
use Rattle.definition.specs.Shown.{shown_text}
use Rattle.definition.specs.declared.Refusal.{Refusal}
use Rattle.base.specs.Upto.{Upto, upto_then}
use Rattle.memo.specs.Lent.{Clears}
use Rattle.memo.specs.declared.memo.Memo.{Memo}
use Rattle.store.specs.Stored.{nodes}
use Rattle.pack_tables.specs.Catalog.{records_of}
use Rattle.pack_tables.specs.SameTables.{same-records}
use Rattle.class_premises.specs.declared.building.Building.{Building}
use Rattle.term_instance.specs.declared.tables.Instance.{Instance}
use Rattle.class_build.specs.Tests.{Made, OfMade, made-given, begun_kept, begun_read}
use Rattle.text_write.specs.Written.{Adds}
use Rattle.text_goals.specs.Showable.{Showable}
use Rattle.text_goals.specs.EachShown.{ShowsEach}
use Rattle.text_goals.specs.declared.goal.Budgets.{Budgets}

-- all classes are made, and behind the goals' tables there is room for the stack of a shown term
pub record Starting (bytes work class words : List ℕ) (s : Building) (t : Instance) : Type 0 where
  pub made : Made bytes work class words s.catalog s.keying s.layout t s.store
  pub few : (i : ℕ) → i < length made.built.classes → t.values + 2 * length (get_or made.built.classes i no_class).flex ≤ t.end
  pub small : length class < 4294967296
  pub forms : t.end + 2 * length (nodes words s.store) ≤ length work
  pub grounds : t.end + 2 * length (records_of work s.catalog 3) ≤ length work

-- of whatever stands there with all classes made
abbrev pub OfAll : (bytes work class words : List ℕ) (s : Building) → (Pack → Built → Type 0) → Type 0
OfAll bytes work class words s F = OfMade bytes work class words s.catalog s.keying s.layout s.store F

-- all pass, and their text is written; or one is refused
abbrev pub ShowsAll : (bytes work work' class words text text' : List ℕ) (s : Building) (t : Instance) (b : Budgets) → Result ℕ Refusal → Type 0
ShowsAll bytes work work' class words text text' s t b (Ok end) =
    Upto t.pairs work work'
    × OfAll bytes work class words s (λ P x. (rs : List Root) × ((L : Lent) → outcome L (test_goals P x 0 P.goals) ≡ fine rs) × Adds text text' 0 (shown_text P x b.form b.value rs) end)
ShowsAll bytes work work' class words text text' s t b (Err z) = OfAll bytes work class words s (λ P x. (L : Lent) → outcome L (test_goals P x 0 P.goals) ≡ refuse z)

module _ (bytes work class words : List ℕ) (s : Building) (t : Instance) (S : Starting bytes work class words s t) (mid : List ℕ) (fresh : Memo) (A : Clears work mid t.seen t.values fresh)
    (next : List ℕ) (bare : Memo) (B : Clears mid next t.values t.end bare) where
  -- words ahead of the tables are as they were
  begun_upto : Upto t.pairs work next
  begun_upto = let K = begun_kept bytes work class words s.catalog s.keying s.layout t s.store S.made mid fresh A next bare B in record { long = K.outside.long; words = K.outside.ahead }

  -- goals can be shown
  pub starts_showable : Showable bytes next class words s t fresh bare
  starts_showable =
      let M = S.made in
      let K = begun_kept bytes work class words s.catalog s.keying s.layout t s.store M mid fresh A next bare B in
      let G = made-given bytes work class words s.catalog s.keying s.layout t s.store M next fresh bare K in
      record {
        pack = M.pack;
        built = M.built;
        ready = begun_read bytes work class words s.catalog s.keying s.layout t s.store M mid fresh A next bare B M.cells M.counts M.memo M.fill M.pack M.built M.standing M.all;
        given = G;
        patterns = M.standing.patterns;
        few = S.few;
        small = S.small;
        forms = omega (arith, S.forms, begun_upto.long);
        grounds =
            omega (arith, S.grounds, begun_upto.long, ap length (same-records work next s.catalog (record { long = begun_upto.long; words = λ i h. begun_upto.words i (omega (arith, G.apart)) }) M.standing.lifts.laid.held.cataloged.fits 3 (omega arith)));
      }

  -- and what they come to
  pub starts_shows : (work' text text' : List ℕ) (b : Budgets) (r : Result ℕ Refusal) → ShowsEach bytes next work' class words text text' s t b r → ShowsAll bytes work work' class words text text' s t b r
  starts_shows work' text text' b (Ok end) N = (
    upto_then t.pairs work next work' begun_upto N.0,
    λ cells r memo fill P x T a. N.1 P x (begun_read bytes work class words s.catalog s.keying s.layout t s.store S.made mid fresh A next bare B cells r memo fill P x T a),
  )
  starts_shows work' text text' b (Err z) N = λ cells r memo fill P x T a. N P x (begun_read bytes work class words s.catalog s.keying s.layout t s.store S.made mid fresh A next bare B cells r memo fill P x T a)
