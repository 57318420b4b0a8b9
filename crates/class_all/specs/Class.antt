-- One class made, as the definition makes it.
use Rattle.std.specs.Prelude.{Result, Ok, Err}
use Rattle.std.specs.Prelude.{◌≡◌, refl, Bool, true, false, List, ℕ, ◌+◌, ◌<◌, length, get_or}
use Rattle.std.proofs.Common.{sym, ◌∙◌}
use Rattle.std.proofs.Math.Path.{ap, subst}
use native.Mathlib.Omega.{arith}
use Rattle.definition.specs.Pack.{Pack, rule_of, step_of}
use Rattle.definition.specs.Certificate.{count}
use Rattle.definition.specs.Keys.{no_keyed, predicate_of, is_a_cut, keyed as keys_of}
use Rattle.definition.specs.Classes.{Built, make_cut, make_class}
use Rattle.definition.specs.Figures.{class_vars_of, flex_vars_of}
use Rattle.definition.specs.Run.{Run, outcome}
use Rattle.definition.specs.Store.{nothing}
use Rattle.base.specs.Outside.{Outside, outside_wider}
use Rattle.store.specs.Stored.{nodes, written}
use Rattle.memo.specs.declared.memo.Memo.{Memo}
use Rattle.store.specs.declared.nodes.Store.{Store}
use Rattle.pack_tables.specs.Catalog.{records_of}
use Rattle.pack_tables.specs.declared.catalog.Catalog.{Catalog}
use Rattle.pack_reader.specs.Marks.{Marks}
use Rattle.pack_read.specs.Reads.{length-rules, length_steps}
use Rattle.pack_read.specs.Says.{OfPack}
use Rattle.pack_read.specs.Held.{Held, OfHeld}
use Rattle.theory.specs.Making.Firsts.{first_step_of, first-given, first_made, cut-made, rule-made, predicate_given}
use Rattle.class_keys.specs.ClassWords.{first_in}
use Rattle.class_keys.specs.Keyed.{keyed-room}
use Rattle.class_keys.specs.declared.classes.Keying.{Keying}
use Rattle.class_keys.specs.declared.classes.Counts.{Counts as KeyCounts}
use Rattle.class_premises.specs.declared.layout.Layout.{Layout}
use Rattle.class_premises.specs.declared.premises.Ruling.{Ruling}
use Rattle.class_premises.specs.Standing.{Standing, standing_held, standing_keyed}
use Rattle.class_cut.specs.Making as cuts
use Rattle.class_rule.specs.Done.{Done, Refused as RefusedRun}
use Rattle.class_rule.specs.Making as rules
use Rattle.class_premises.specs.declared.building.Building.{Building}
use Rattle.class_premises.specs.declared.building.Counted.{Counted}
use Rattle.class_premises.specs.Buffers.{Buffers, handed}
use Rattle.definition.specs.declared.Refusal.{Refusal}

-- ---- what is asked and answered
-- a step's rule, and how many variables and premises that has
pub record RulingOf (P : Pack) (u : Ruling) : Type 0 where
  pub rule : u.rule ≡ (step_of P u.step).rule
  pub vars : u.vars ≡ length (rule_of P u.rule).vars
  pub premises : u.premises ≡ count (rule_of P u.rule).premises

-- what stands at entry: class i is the next
pub record Asks (bytes work class words cells : List ℕ) (c : Catalog) (k : Keying) (l : Layout) (r : KeyCounts) (st : Store) (memo : Memo) (fill i : ℕ) (P : Pack) (b : Built) : Type 0 where
  pub standing : Standing bytes work class words cells c k l r st memo fill P b
  pub number : i ≡ length b.classes
  pub more : i < length (keys_of P).classes

-- some such stands, and the places of class buffer and cells are words
pub record Making (bytes work class words cells : List ℕ) (c : Catalog) (k : Keying) (l : Layout) (st : Store) (memo : Memo) (fill i : ℕ) : Type 0 where
  pub counts : KeyCounts
  pub pack : Pack
  pub built : Built
  pub asks : Asks bytes work class words cells c k l counts st memo fill i pack built
  pub small_cells : length cells < nothing
  pub small : length class < 4294967296

-- the definition's run
abbrev pub class_run : Pack → Built → ℕ → Run Built
class_run P b i = make_class P (keys_of P).words (get_or (keys_of P).classes i no_keyed) b

-- of whatever stands
abbrev pub Whatever : List ℕ → List ℕ → List ℕ → List ℕ → List ℕ → Catalog → Keying → Layout → Store → Memo → ℕ → ℕ → (KeyCounts → Pack → Built → Type 0) → Type 0
Whatever bytes work class words cells c k l st memo fill i F = (r : KeyCounts) (P : Pack) (b : Built) → Asks bytes work class words cells c k l r st memo fill i P b → F r P b

-- what `make_class` answers
abbrev pub Makes : List ℕ → List ℕ → List ℕ → List ℕ → List ℕ → List ℕ → List ℕ → List ℕ → List ℕ → Catalog → Keying → Layout → Store → Memo → ℕ → ℕ → Result (Building × Counted) Refusal → Type 0
Makes bytes work class words cells work' class' words' cells' c k l st memo fill i (Ok (s', f)) =
    (s' ≡ handed c k l s'.store s'.memo s'.fill)
    × Whatever bytes work class words cells c k l st memo fill i (λ r P b. Done class words cells bytes work' class' words' cells' c k l r s'.store s'.memo s'.fill f P b (class_run P b i))
    × (words' ≡ written (nodes words' s'.store) words)
    × Outside l.rows l.end work work'
    × Outside fill s'.fill class class'
Makes bytes work class words cells work' class' words' cells' c k l st memo fill i (Err x) =
    Whatever bytes work class words cells c k l st memo fill i (λ r P b. RefusedRun class words cells (class_run P b i) x)

-- both of buffers that are lent and what is at hand
abbrev pub MakingIn : Buffers → Building → ℕ → Type 0
MakingIn B s i = Making B.pack B.work B.class B.pattern B.graph s.catalog s.keying s.layout s.store s.memo s.fill i

abbrev pub MakesIn : Buffers → Buffers → Building → ℕ → Result (Building × Counted) Refusal → Type 0
MakesIn B B' s i r =
    Makes B.pack B.work B.class B.pattern B.graph B'.work B'.class B'.pattern B'.graph s.catalog s.keying s.layout s.store s.memo s.fill i r

-- ---- a step's rule
module _ (bytes work : List ℕ) (c : Catalog) (H : Held bytes work c) (s : ℕ) (h : s < length (records_of work c 4)) (r : ℕ) (R : OfPack bytes work c (λ P. (step_of P s).rule) r) where
  -- it is recorded
  pub ruling_recorded : r < length (records_of work c 2)
  ruling_recorded =
      let P = H.pack in
      omega (arith, R P H.reads, length-rules bytes (records_of work c) P H.reads, (H.proper.good.steps s (omega (arith, h, length_steps bytes (records_of work c) P H.reads))).rule)

module _ (bytes work class words cells : List ℕ) (c : Catalog) (k : Keying) (l : Layout) (st : Store) (memo : Memo) (fill i : ℕ) where
  -- ---- of one pack and what is built of it
  module _ (r : KeyCounts) (P : Pack) (b : Built) (A : Asks bytes work class words cells c k l r st memo fill i P b) where
    -- the keys count the class
    counted : i < r.classes
    counted = omega (arith, A.more, (standing_keyed bytes work class words cells c k l r st memo fill P b A.standing).classes)

    -- the word of its first step is there
    first-room : k.at + k.cap + i < length work
    first-room = (keyed-room bytes work class c k r A.standing.keyed i counted).0

    -- and says it
    first_is : first_in work k i ≡ first_step_of P i
    first_is = (standing_keyed bytes work class words cells c k l r st memo fill P b A.standing).first i counted

    module _ (s : ℕ) (S : s ≡ first_in work k i) where
      -- it is a step
      first_step : s < length P.steps
      first_step = omega (arith, S, first_is, first-given P A.standing.proper.good i A.more)

      -- it is recorded
      first_recorded : s < length (records_of work c 4)
      first_recorded = omega (arith, first_step, length_steps bytes (records_of work c) P A.standing.reads)

      -- ---- it is cut
      module _ (cut_is : is_a_cut P (predicate_of P s) ≡ true) (p : ℕ) (predicate : p ≡ predicate_of P s) where
        -- its class is its predicate's
        cut-run : class_run P b i ≡ make_cut P p b
        cut-run =
            let e : s ≡ first_step_of P i = S ∙ first_is in
            cut-made P A.standing.proper.good i A.more (sym (ap (λ (t : ℕ). is_a_cut P (predicate_of P t)) e) ∙ cut_is) (keys_of P).words b
            ∙ ap (λ (q : ℕ). make_cut P q b) (sym (predicate ∙ ap (predicate_of P) e))

        -- which is asked for
        cut_asks : cuts.Asks bytes work class words cells c k l r st memo fill i p P b
        cut_asks = record { standing = A.standing; symbol = omega (arith, predicate, predicate_given P A.standing.proper.good s first_step); number = A.number; more = A.more }

      -- ---- it is not
      module _ (cut-not : is_a_cut P (predicate_of P s) ≡ false) (u : Ruling) (step_is : u.step ≡ s) (U : RulingOf P u) where
        -- its class is its rule's
        rule-run : class_run P b i ≡ rules.rule_run P b u
        rule-run =
            let e : s ≡ first_step_of P i = S ∙ first_is in
            rule-made P A.standing.proper.good i A.more (sym (ap (λ (t : ℕ). is_a_cut P (predicate_of P t)) e) ∙ cut-not) (keys_of P).words b
            ∙ ap (λ (t : ℕ). rules.rule_run P b (record { step = t; rule = u.rule; vars = u.vars; premises = u.premises })) (sym (step_is ∙ e))

        -- which is asked for
        rule_asks : rules.Asks bytes work class words cells c k l r st memo u fill i P b
        rule_asks =
            let e : u.step ≡ first_step_of P i = step_is ∙ S ∙ first_is in
            record {
              standing = A.standing;
              ruled = record {
                step = omega (arith, step_is, first_step);
                rule = U.rule;
                vars = U.vars;
                premises = U.premises;
                made =
                    rw e
                    (first_made P A.standing.proper.good i A.more (sym (ap (λ (t : ℕ). is_a_cut P (predicate_of P t)) (S ∙ first_is)) ∙ cut-not) b (sym A.number));
              };
              number = A.number;
              more = A.more;
            }

  -- ---- what `make_class` needs
  module _ (K : Making bytes work class words cells c k l st memo fill i) where
    -- the first step may be read
    pub making-first : k.at + k.cap + i < length work
    making-first = first-room K.counts K.pack K.built K.asks

    -- the pack is held, with its marks
    pub making-held : Held bytes work c
    making-held = standing_held bytes work class words cells c k l K.counts st memo fill K.pack K.built K.asks.standing

    pub making-marks : Marks bytes work c
    making-marks = K.asks.standing.keyed.keyable.marks

    module _ (s : ℕ) (S : s ≡ first_in work k i) where
      -- the step is recorded
      pub making-step : s < length (records_of work c 4)
      making-step = first_recorded K.counts K.pack K.built K.asks s S

      module _ (t : Bool) (T : OfHeld bytes work c (λ P. t ≡ is_a_cut P (predicate_of P s))) where
        -- ---- it is cut
        module _ (e : t ≡ true) (p : ℕ) (N : OfHeld bytes work c (λ P. p ≡ predicate_of P s)) where
          -- the cut class is asked for
          asks_cut : (r : KeyCounts) (P : Pack) (b : Built) → Asks bytes work class words cells c k l r st memo fill i P b → cuts.Asks bytes work class words cells c k l r st memo fill i p P b
          asks_cut r P b A =
              let R = A.standing.reads in
              let Q = A.standing.proper in
              cut_asks r P b A s S (sym (T P R Q) ∙ e) p (N P R Q)

          run-cut : (r : KeyCounts) (P : Pack) (b : Built) → Asks bytes work class words cells c k l r st memo fill i P b → class_run P b i ≡ make_cut P p b
          run-cut r P b A =
              let R = A.standing.reads in
              let Q = A.standing.proper in
              cut-run r P b A s S (sym (T P R Q) ∙ e) p (N P R Q)

          pub making-cut : cuts.Cutting bytes work class words c k l st fill i p
          making-cut = record { cells = cells; counts = K.counts; memo = memo; pack = K.pack; built = K.built; asks = asks_cut K.counts K.pack K.built K.asks; small = K.small }

          -- it is made, or not
          pub makes_cut : (work' class' words' : List ℕ) (m : Result (Building × Counted) Refusal) → cuts.Cuts bytes work class words work' class' words' c k l st memo fill i p m
              → Makes bytes work class words cells work' class' words' cells c k l st memo fill i m
          unfolding class_vars_of flex_vars_of
          makes_cut work' class' words' (Ok (s', f)) C =
              let known : s'.memo ≡ memo = ap (λ (x : Building). x.memo) C.0 in (
                C.0 ∙ ap (λ (x : Memo). handed c k l s'.store x s'.fill) (sym known),
                (λ r P b A.
                    let D = C.2 cells r memo P b (asks_cut r P b A) in
                    subst (λ (x : Memo). Done class words cells bytes work' class' words' cells c k l r s'.store x s'.fill f P b (class_run P b i)) (sym known)
                    (subst (λ (x : Counted). Done class words cells bytes work' class' words' cells c k l r s'.store memo s'.fill x P b (class_run P b i)) (sym C.1) (record {
                      built = D.built;
                      standing = D.standing;
                      is = λ L v. ap (outcome L) (run-cut r P b A) ∙ D.is L v.words_long v.class_long;
                      longer = D.longer;
                      made = cuts.cut_class P p D.conclusion;
                      last = D.last;
                      grows = D.grows;
                      few = record { vars = omega arith; flex = omega arith; fixed = omega arith; entries = omega arith; renamings = omega arith };
                      vars = refl;
                      flex = refl;
                      fixed = refl;
                      entries = refl;
                      renamings = refl;
                    }))),
                C.3,
                (let laid = K.asks.standing.placed.laid in outside_wider l.rows l.copied l.rows l.end work work' (omega arith) (omega (arith, laid.memo, laid.stack, laid.variables, laid.table)) C.4),
                C.5,
              )
          makes_cut work' class' words' (Err x) C = λ r P b A L v. ap (outcome L) (run-cut r P b A) ∙ C cells r memo P b (asks_cut r P b A) L v.words_long v.class_long

        -- ---- it is not
        module _ (e : t ≡ false) (u : Ruling) (step_is : u.step ≡ s) (U : OfHeld bytes work c (λ P. RulingOf P u)) where
          -- the rule's class is asked for
          asks_rule : (r : KeyCounts) (P : Pack) (b : Built) → Asks bytes work class words cells c k l r st memo fill i P b → rules.Asks bytes work class words cells c k l r st memo u fill i P b
          asks_rule r P b A =
              let R = A.standing.reads in
              let Q = A.standing.proper in
              rule_asks r P b A s S (sym (T P R Q) ∙ e) u step_is (U P R Q)

          run-rule : (r : KeyCounts) (P : Pack) (b : Built) → Asks bytes work class words cells c k l r st memo fill i P b → class_run P b i ≡ rules.rule_run P b u
          run-rule r P b A =
              let R = A.standing.reads in
              let Q = A.standing.proper in
              rule-run r P b A s S (sym (T P R Q) ∙ e) u step_is (U P R Q)

          pub making-rule : rules.Making bytes work class words cells c k l st memo u fill i
          making-rule = record {
            counts = K.counts;
            pack = K.pack;
            built = K.built;
            asks = asks_rule K.counts K.pack K.built K.asks;
            small_cells = K.small_cells;
            small = K.small;
          }

          -- it is made, or not
          pub makes_rule : (work' class' words' cells' : List ℕ) (m : Result (Building × Counted) Refusal) → rules.Makes bytes work class words cells work' class' words' cells' c k l st memo u fill i m
              → Makes bytes work class words cells work' class' words' cells' c k l st memo fill i m
          makes_rule work' class' words' cells' (Ok (s', f)) D = (
            D.0,
            (λ r P b A. subst (Done class words cells bytes work' class' words' cells' c k l r s'.store s'.memo s'.fill f P b) (sym (run-rule r P b A)) (D.1 r P b (asks_rule r P b A))),
            D.2,
            D.3,
            D.4,
          )
          makes_rule work' class' words' cells' (Err x) D = λ r P b A L v. ap (outcome L) (run-rule r P b A) ∙ D r P b (asks_rule r P b A) L v
