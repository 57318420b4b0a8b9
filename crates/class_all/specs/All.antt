-- All classes made, as the definition makes them: with each class what is left to do comes to what the whole comes to.
use Rattle.std.specs.Prelude.{Result, Ok, Err}
use Rattle.std.specs.Prelude.{◌≡◌, refl, List, [], ℕ, suc, ◌+◌, ◌≤◌, ◌<◌, length, drop}
use Rattle.std.proofs.Common.{sym, ap, ◌∙◌, subst, arith, drop_of_length-le, drop-cons}
use Rattle.definition.specs.Pack.{Node, Pack}
use Rattle.definition.specs.Keys.{Keyed, no_keyed, keyed as keys_of}
use Rattle.definition.specs.Classes.{Built, make_classes}
use Rattle.definition.specs.Frame.{fine, refuse}
use Rattle.definition.specs.Answer.{Lent}
use Rattle.definition.specs.Run.{Run, outcome}
use Rattle.definition.specs.declared.Refusal.{Refusal as Reason}
use Rattle.definition.specs.Store.{nothing}
use Rattle.theory.specs.Patterns.Interned.{Grows}
use Rattle.base.specs.Outside.{Outside, outside_none, outside_then, outside_wider}
use Rattle.store.specs.Stored.{nodes, written}
use Rattle.store.specs.Table.{begins_written}
use Rattle.memo.specs.declared.memo.Memo.{Memo}
use Rattle.store.specs.declared.nodes.Store.{Store}
use Rattle.pack_tables.specs.Catalog.{records_of}
use Rattle.pack_tables.specs.declared.catalog.Catalog.{Catalog}
use Rattle.pack_read.specs.Reads.{length_steps}
use Rattle.term_lift.specs.Runs.{written_again}
use Rattle.theory.specs.Making.Runs.{outcome_fine, outcome_refuse, outcome-return-end}
use Rattle.class_keys.specs.declared.classes.Keying.{Keying}
use Rattle.class_keys.specs.declared.classes.Counts.{Counts as KeyCounts}
use Rattle.class_premises.specs.declared.layout.Layout.{Layout}
use Rattle.class_premises.specs.RowWords.{width, width-more}
use Rattle.class_premises.specs.Standing.{Standing, standing_keyed}
use Rattle.class_rule.specs.Done.{Lends, Done, Refused as RefusedRun}
use Rattle.class_premises.specs.declared.building.Building.{Building}
use Rattle.class_premises.specs.declared.building.Counted.{Counted}
use Rattle.class_premises.specs.Buffers.{Buffers, lent, handed, uncounted}
use Rattle.class_all.specs.Class.{Asks, class_run, Makes, MakingIn, MakesIn}
use Rattle.class_all.specs.Totals.{Addable, summed, Sums, Low, sums_none, low_none, sums_more, low_more, addable}

-- ---- what is asked and answered
-- what stands at entry: no class is made, and the keys count so many
pub record Begins (bytes work class words cells : List ℕ) (c : Catalog) (k : Keying) (l : Layout) (r : KeyCounts) (st : Store) (memo : Memo) (count fill : ℕ) (P : Pack) (b : Built) : Type 0 where
  pub standing : Standing bytes work class words cells c k l r st memo fill P b
  pub none : b.classes ≡ []
  pub counted : count ≡ r.classes

-- some such stands, and the places of class buffer and cells are words
pub record Beginning (bytes work class words cells : List ℕ) (c : Catalog) (k : Keying) (l : Layout) (st : Store) (memo : Memo) (count fill : ℕ) : Type 0 where
  pub counts : KeyCounts
  pub pack : Pack
  pub built : Built
  pub begins : Begins bytes work class words cells c k l counts st memo count fill pack built
  pub small_cells : length cells < nothing
  pub small : length class < 4294967296

-- the definition's run, and what is left of it behind i classes
abbrev pub all_run : Pack → Built → Run Built
all_run P b = make_classes P (keys_of P).words (keys_of P).classes b

abbrev left_run : Pack → Built → ℕ → Run Built
left_run P b i = make_classes P (keys_of P).words (drop i (keys_of P).classes) b

-- all classes are made, these are the sums over them, and all stands with them
pub record AllDone (class words cells bytes work' class' words' cells' : List ℕ) (c : Catalog) (k : Keying) (l : Layout) (r : KeyCounts) (st' : Store) (memo' : Memo) (fill' : ℕ) (t : Counted) (P : Pack) (b : Built) : Type 0 where
  pub built : Built
  pub standing : Standing bytes work' class' words' cells' c k l r st' memo' fill' P built
  pub is : (L : Lent) → Lends L class words cells → outcome L (all_run P b) ≡ fine built
  pub all : length built.classes ≡ length (keys_of P).classes
  pub sums : Sums t built.classes

-- of whatever stands
abbrev pub Whatever : List ℕ → List ℕ → List ℕ → List ℕ → List ℕ → Catalog → Keying → Layout → Store → Memo → ℕ → ℕ → (KeyCounts → Pack → Built → Type 0) → Type 0
Whatever bytes work class words cells c k l st memo count fill F = (r : KeyCounts) (P : Pack) (b : Built) → Begins bytes work class words cells c k l r st memo count fill P b → F r P b

-- what `make_classes` answers
abbrev pub Builds : List ℕ → List ℕ → List ℕ → List ℕ → List ℕ → List ℕ → List ℕ → List ℕ → List ℕ → Catalog → Keying → Layout → Store → Memo → ℕ → ℕ → Result (Building × Counted) Reason → Type 0
Builds bytes work class words cells work' class' words' cells' c k l st memo count fill (Ok (s', t)) =
    (s' ≡ handed c k l s'.store s'.memo s'.fill)
    × Whatever bytes work class words cells c k l st memo count fill (λ r P b. AllDone class words cells bytes work' class' words' cells' c k l r s'.store s'.memo s'.fill t P b)
    × (words' ≡ written (nodes words' s'.store) words)
    × Outside l.rows l.end work work'
    × Outside fill s'.fill class class'
Builds bytes work class words cells work' class' words' cells' c k l st memo count fill (Err x) =
    Whatever bytes work class words cells c k l st memo count fill (λ r P b. RefusedRun class words cells (all_run P b) x)

-- both of buffers that are lent and what is at hand
abbrev pub BeginningIn : Buffers → Building → ℕ → Type 0
BeginningIn B s count = Beginning B.pack B.work B.class B.pattern B.graph s.catalog s.keying s.layout s.store s.memo count s.fill

abbrev pub BuildsIn : Buffers → Buffers → Building → ℕ → Result (Building × Counted) Reason → Type 0
BuildsIn B B' s count r =
    Builds B.pack B.work B.class B.pattern B.graph B'.work B'.class B'.pattern B'.graph s.catalog s.keying s.layout s.store s.memo count s.fill r

-- ---- between two classes
-- i classes are made, and what is left to do comes to what the whole comes to
pub record Left (class words cells bytes work' class' words' cells' : List ℕ) (c : Catalog) (k : Keying) (l : Layout) (r : KeyCounts) (st' : Store) (memo' : Memo) (fill' : ℕ) (t : Counted) (i : ℕ) (P : Pack) (b : Built) : Type 0 where
  pub built : Built
  pub standing : Standing bytes work' class' words' cells' c k l r st' memo' fill' P built
  pub number : i ≡ length built.classes
  pub left : (L : Lent) → Lends L class words cells → outcome L (all_run P b) ≡ outcome L (make_classes P (keys_of P).words (drop i (keys_of P).classes) built)
  pub sums : Sums t built.classes

-- so it is of whatever stood at entry
pub record Turned (bytes work class words cells work' class' words' cells' : List ℕ) (c : Catalog) (k : Keying) (l : Layout) (st : Store) (memo : Memo) (count fill : ℕ) (s : Building) (t : Counted) (i : ℕ) : Type 0 where
  pub same : s ≡ handed c k l s.store s.memo s.fill
  pub most : i ≤ count
  pub words_long : length words' ≡ length words
  pub cells_long : length cells' ≡ length cells
  pub are : words' ≡ written (nodes words' s.store) words
  pub places : Outside l.rows l.end work work'
  pub rows : Outside fill s.fill class class'
  pub rising : fill ≤ s.fill
  pub low : Low t i
  pub each : Whatever bytes work class words cells c k l st memo count fill (λ r P b. Left class words cells bytes work' class' words' cells' c k l r s.store s.memo s.fill t i P b)

-- the next class of what is left
left-next : (P : Pack) (b : Built) (i : ℕ) → i < length (keys_of P).classes → (L : Lent) (b' : Built) → outcome L (class_run P b i) ≡ fine b' → outcome L (left_run P b i) ≡ outcome L (left_run P b' (i + 1))
unfolding make_classes
left-next P b i h L b' e =
    let ks = (keys_of P).classes in
    let ws = (keys_of P).words in
    let z : i + 1 ≡ suc i = omega arith in
    ap (λ (xs : List Keyed). outcome L (make_classes P ws xs b)) (drop-cons ks i no_keyed h)
    ∙ outcome_fine L (class_run P b i) (λ d. make_classes P ws (drop (suc i) ks) d) b' e
    ∙ sym (ap (λ (j : ℕ). outcome L (make_classes P ws (drop j ks) b')) z)

left-refused : (P : Pack) (b : Built) (i : ℕ) → i < length (keys_of P).classes → (L : Lent) (x : Reason) → outcome L (class_run P b i) ≡ refuse x → outcome L (left_run P b i) ≡ refuse x
unfolding make_classes
left-refused P b i h L x e =
    let ks = (keys_of P).classes in
    let ws = (keys_of P).words in
    ap (λ (xs : List Keyed). outcome L (make_classes P ws xs b)) (drop-cons ks i no_keyed h)
    ∙ outcome_refuse L (class_run P b i) (λ d. make_classes P ws (drop (suc i) ks) d) x e

-- nothing is left
left-none : (P : Pack) (b : Built) (i : ℕ) → length (keys_of P).classes ≤ i → (L : Lent) → outcome L (left_run P b i) ≡ fine b
unfolding make_classes
left-none P b i h L = ap (λ (xs : List Keyed). outcome L (make_classes P (keys_of P).words xs b)) (drop_of_length-le (keys_of P).classes h) ∙ outcome-return-end L b

module _ (bytes work class words cells : List ℕ) (c : Catalog) (k : Keying) (l : Layout) (st : Store) (memo : Memo) (count fill : ℕ) where
  -- the keys count the classes
  begins_all : (r : KeyCounts) (P : Pack) (b : Built) → Begins bytes work class words cells c k l r st memo count fill P b → count ≡ length (keys_of P).classes
  begins_all r P b B = B.counted ∙ (standing_keyed bytes work class words cells c k l r st memo fill P b B.standing).classes

  module _ (K : Beginning bytes work class words cells c k l st memo count fill) where
    -- there are few
    pub beginning_few : count < 4294967296
    beginning_few =
        let B = K.begins in
        let S = B.standing in
        let Q = standing_keyed bytes work class words cells c k l K.counts st memo fill K.pack K.built S in
        omega (arith, B.counted, Q.few, length_steps bytes (records_of work c) K.pack S.reads, S.keyed.keyable.words, K.small)

    -- no class is made yet
    pub turned_none : Turned bytes work class words cells work class words cells c k l st memo count fill (handed c k l st memo fill) uncounted 0
    turned_none = record {
      same = refl;
      most = omega arith;
      words_long = refl;
      cells_long = refl;
      are = begins_written (nodes words st) words K.begins.standing.lifts.laid.index.placed.begins;
      places = outside_none l.rows l.end work;
      rows = outside_none fill fill class;
      rising = omega arith;
      low = low_none;
      each = λ r P b B. record { built = b; standing = B.standing; number = sym (ap length B.none); left = λ L e. refl; sums = subst (Sums uncounted) (sym B.none) sums_none };
    }

    -- ---- a turn
    module _ (work' class' words' cells' : List ℕ) (s : Building) (t : Counted) (i : ℕ) (T : Turned bytes work class words cells work' class' words' cells' c k l st memo count fill s t i) where
      -- these are lent
      lends : (L : Lent) → Lends L class words cells → Lends L class' words' cells'
      lends L e = record { class_long = e.class_long ∙ sym T.rows.long; words_long = e.words_long ∙ sym T.words_long; cells_long = e.cells_long ∙ sym T.cells_long }

      module _ (h : i < count) where
        -- the next class is asked for
        asks : (r : KeyCounts) (P : Pack) (b : Built) (B : Begins bytes work class words cells c k l r st memo count fill P b) → Asks bytes work' class' words' cells' c k l r s.store s.memo s.fill i P (T.each r P b B).built
        asks r P b B = let E = T.each r P b B in record { standing = E.standing; number = E.number; more = omega (arith, h, begins_all r P b B) }

        pub turned_makes : MakingIn (lent bytes class' words' cells' work') s i
        turned_makes = subst (λ (x : Building). MakingIn (lent bytes class' words' cells' work') x i) (sym T.same) (record {
          counts = K.counts;
          pack = K.pack;
          built = (T.each K.counts K.pack K.built K.begins).built;
          asks = asks K.counts K.pack K.built K.begins;
          small_cells = omega (arith, T.cells_long, K.small_cells);
          small = omega (arith, T.rows.long, K.small);
        })

        -- what is at hand has its places
        placed : (work'' class'' words'' cells'' : List ℕ) (m : Result (Building × Counted) Reason) → MakesIn (lent bytes class' words' cells' work') (lent bytes class'' words'' cells'' work'') s i m
            → Makes bytes work' class' words' cells' work'' class'' words'' cells'' c k l s.store s.memo s.fill i m
        placed work'' class'' words'' cells'' m M = subst (λ (x : Building). MakesIn (lent bytes class' words' cells' work') (lent bytes class'' words'' cells'' work'') x i m) T.same M

        -- it is refused
        pub turned_refused : (work'' class'' words'' cells'' : List ℕ) (x : Reason) → MakesIn (lent bytes class' words' cells' work') (lent bytes class'' words'' cells'' work'') s i (Err x)
            → Builds bytes work class words cells work'' class'' words'' cells'' c k l st memo count fill (Err x)
        turned_refused work'' class'' words'' cells'' x M r P b B L e =
            let E = T.each r P b B in
            E.left L e ∙ left-refused P E.built i (omega (arith, h, begins_all r P b B)) L x (placed work'' class'' words'' cells'' (Err x) M r P E.built (asks r P b B) L (lends L e))

        -- it is made
        module _ (work'' class'' words'' cells'' : List ℕ) (s'' : Building) (f : Counted) (Q : MakesIn (lent bytes class' words' cells' work') (lent bytes class'' words'' cells'' work'') s i (Ok (s'', f))) where
          abbrev M : Makes bytes work' class' words' cells' work'' class'' words'' cells'' c k l s.store s.memo s.fill i (Ok (s'', f))
          M = placed work'' class'' words'' cells'' (Ok (s'', f)) Q

          -- of one pack and what was built of it
          done : (r : KeyCounts) (P : Pack) (b : Built) (B : Begins bytes work class words cells c k l r st memo count fill P b)
              → Done class' words' cells' bytes work'' class'' words'' cells'' c k l r s''.store s''.memo s''.fill f P (T.each r P b B).built (class_run P (T.each r P b B).built i)
          done r P b B = M.1 r P (T.each r P b B).built (asks r P b B)

          -- the sums may be added to
          pub turned_addable : Addable t f
          turned_addable =
              addable t f i (length cells') (omega (arith, T.cells_long, K.small_cells)) (done K.counts K.pack K.built K.begins).few T.low (omega (arith, h, beginning_few))

          -- the rows end further on
          further : s.fill ≤ s''.fill
          further =
              let E = T.each K.counts K.pack K.built K.begins in
              let D = done K.counts K.pack K.built K.begins in
              omega (arith, E.standing.rows.filled, D.standing.rows.filled, ap width D.last, width-more E.built.classes D.made)

          -- the store has grown
          grown : Grows (nodes words' s.store) (nodes words'' s''.store)
          grown =
              let E = T.each K.counts K.pack K.built K.begins in
              let D = done K.counts K.pack K.built K.begins in
              subst (λ (s : List Node). Grows s (nodes words'' s''.store)) (sym E.standing.store) (subst (Grows E.built.store) (sym D.standing.store) D.grows)

          pub turned_more : length words'' ≡ length words' → length cells'' ≡ length cells' → Turned bytes work class words cells work'' class'' words'' cells'' c k l st memo count fill s'' (summed t f) (i + 1)
          turned_more w z = record {
            same = M.0;
            most = omega arith;
            words_long = w ∙ T.words_long;
            cells_long = z ∙ T.cells_long;
            are = M.2 ∙ ap (written (nodes words'' s''.store)) T.are ∙ written_again (nodes words' s.store) (nodes words'' s''.store) words grown;
            places = outside_then l.rows l.end work work' work'' T.places M.3;
            rows =
                outside_then fill s''.fill class class' class'' (outside_wider fill s.fill fill s''.fill class class' (omega arith) further T.rows)
                (outside_wider s.fill s''.fill fill s''.fill class' class'' T.rising (omega arith) M.4);
            rising = omega (arith, T.rising, further);
            low = low_more t f i (length cells') (omega (arith, T.cells_long, K.small_cells)) (done K.counts K.pack K.built K.begins).few T.low;
            each = λ r P b B.
                let E = T.each r P b B in
                let D = done r P b B in
                record {
                  built = D.built;
                  standing = D.standing;
                  number = omega (arith, E.number, D.longer);
                  left = λ L e. E.left L e ∙ left-next P E.built i (omega (arith, h, begins_all r P b B)) L D.built (D.is L (lends L e));
                  sums = subst (Sums (summed t f)) (sym D.last) (sums_more t f E.built.classes D.made E.sums D.vars D.flex D.fixed D.entries D.renamings);
                };
          }

      -- all are made
      pub turned_all : count ≤ i → Builds bytes work class words cells work' class' words' cells' c k l st memo count fill (Ok (s, t))
      turned_all h = (
        T.same,
        (λ r P b B.
            let E = T.each r P b B in
            let n = begins_all r P b B in
            record {
              built = E.built;
              standing = E.standing;
              is = λ L e. E.left L e ∙ left-none P E.built i (omega (arith, h, n)) L;
              all = omega (arith, h, n, T.most, E.number);
              sums = E.sums;
            }),
        T.are,
        T.places,
        T.rows,
      )
