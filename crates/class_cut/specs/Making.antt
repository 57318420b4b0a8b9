-- A cut class made, as the definition makes it.
use Rattle.std.specs.Prelude.{Result, Ok, Err}
use Rattle.std.specs.Prelude.{◌≡◌, refl, true, List, [], ◌∷◌, ◌++◌, map, ℕ, ◌+◌, ◌-◌, ◌≤◌, ◌<◌, length, get_or}
use Rattle.std.proofs.Common.{sym, ap, ◌∙◌, subst, arith, length-append}
use Rattle.std.proofs.lemmas.List.{length-map}
use Rattle.definition.specs.Pack.{Node, Pack}
use Rattle.definition.specs.Keys.{no_keyed, keyed as keys_of}
use Rattle.definition.specs.Store.{Stored, pattern_words}
use Rattle.definition.specs.Classes.{Class, Built, add_class, make_cut}
use Rattle.definition.specs.Frame.{fine, refuse}
use Rattle.definition.specs.Answer.{Lent}
use Rattle.definition.specs.Run.{outcome}
use Rattle.definition.specs.declared.Refusal.TheVariants.{Short}
use Rattle.theory.specs.Patterns.Interned.{Grows}
use Rattle.theory.specs.Walks.Again.{stored}
use Rattle.base.specs.Part.{part_same}
use Rattle.base.specs.Outside.{Outside}
use Rattle.base.specs.declared.id.Pattern.{Pattern}
use Rattle.store.specs.Words.{begins_long}
use Rattle.store.specs.Stored.{nodes, written}
use Rattle.memo.specs.Recall.{Remembers}
use Rattle.memo.specs.declared.memo.Memo.{Memo}
use Rattle.store.specs.declared.nodes.Store.{Store}
use Rattle.pack_tables.specs.Catalog.{records_of}
use Rattle.pack_tables.specs.declared.catalog.Catalog.{Catalog}
use Rattle.pack_read.specs.Reads.{Reads, length_symbols}
use Rattle.pack_read.specs.Says.{Readable, OfPack}
use Rattle.pack_read.specs.Held.{Proper, reads_on}
use Rattle.theory.specs.Copies.Terms.{Patterns}
use Rattle.theory.specs.Making.Interns.{Interning, cut_top, cut_patterns}
use Rattle.theory.specs.Making.Variables.{VariablesBelow, variables_cut}
use Rattle.class_keys.specs.declared.classes.Keying.{Keying}
use Rattle.class_keys.specs.declared.classes.Counts.{Counts}
use Rattle.term_lift.specs.Nodes.{laid_same}
use Rattle.class_premises.specs.declared.layout.Layout.{Layout}
use Rattle.class_premises.specs.declared.building.Building.{Building}
use Rattle.class_premises.specs.Buffers.{handed, uncounted}
use Rattle.class_premises.specs.Standing.{lifted_of, Standing}
use Rattle.class_premises.specs.Added.{built_with, add_short_patterns, add_short_row, add_fine}
use Rattle.class_premises.specs.More.{standing_more}
use Rattle.class_premises.specs.Grown.{Grown, grown-count, grown-counted, grown_inside, grown-place, grown-adds}
use Rattle.class_cut.specs.Fresh.{inputs_of}
use Rattle.class_cut.specs.Conclusion.{Concluded, Unconcluded}
use Rattle.class_cut.specs.Marks.{Writing, Writes, writes_row}
use Rattle.class_premises.specs.declared.building.Counted.{Counted}
use Rattle.definition.specs.declared.Refusal.{Refusal}

-- the class of predicate p with this conclusion
abbrev pub cut_class : Pack → ℕ → ℕ → Class
cut_class P p n = record { conclusion = n; flex = map (λ s. true) (inputs_of P p); cut = true; fixed = 0; entries = 0; renamings = 0 }

-- what stands at entry: class i is the next, and p a symbol
pub record Asks (bytes work class words cells : List ℕ) (c : Catalog) (k : Keying) (l : Layout) (r : Counts) (st : Store) (memo : Memo) (fill i p : ℕ) (P : Pack) (b : Built) : Type 0 where
  pub standing : Standing bytes work class words cells c k l r st memo fill P b
  pub symbol : p < length P.symbols
  pub number : i ≡ length b.classes
  pub more : i < length (keys_of P).classes

-- some such stands, and the class buffer's places are words
pub record Cutting (bytes work class words : List ℕ) (c : Catalog) (k : Keying) (l : Layout) (st : Store) (fill i p : ℕ) : Type 0 where
  pub cells : List ℕ
  pub counts : Counts
  pub memo : Memo
  pub pack : Pack
  pub built : Built
  pub asks : Asks bytes work class words cells c k l counts st memo fill i p pack built
  pub small : length class < 4294967296

-- the class is made as the definition makes it, and all stands with it
pub record Done (bytes work class words work' class' words' cells : List ℕ) (c : Catalog) (k : Keying) (l : Layout) (r : Counts) (st' : Store) (memo : Memo) (fill' p : ℕ) (P : Pack) (b : Built) : Type 0 where
  pub built : Built
  pub standing : Standing bytes work' class' words' cells c k l r st' memo fill' P built
  pub is : (L : Lent) → L.pattern ≡ length words → L.class ≡ length class → outcome L (make_cut P p b) ≡ fine built
  pub longer : length built.classes ≡ length b.classes + 1
  pub conclusion : ℕ
  pub last : built.classes ≡ b.classes ++ (cut_class P p conclusion ∷ [])
  pub grows : Grows b.store built.store

-- of whatever stands
abbrev pub Whatever : List ℕ → List ℕ → List ℕ → List ℕ → Catalog → Keying → Layout → Store → ℕ → ℕ → ℕ → (List ℕ → Counts → Memo → Pack → Built → Type 0) → Type 0
Whatever bytes work class words c k l st fill i p F =
    (cells : List ℕ) (r : Counts) (memo : Memo) (P : Pack) (b : Built) → Asks bytes work class words cells c k l r st memo fill i p P b → F cells r memo P b

-- what `make_cut` answers
abbrev pub Cuts : List ℕ → List ℕ → List ℕ → List ℕ → List ℕ → List ℕ → List ℕ → Catalog → Keying → Layout → Store → Memo → ℕ → ℕ → ℕ → Result (Building × Counted) Refusal → Type 0
Cuts bytes work class words work' class' words' c k l st known fill i p (Ok (s', f)) =
    (s' ≡ handed c k l s'.store known s'.fill)
    × (f ≡ uncounted)
    × Whatever bytes work class words c k l st fill i p (λ cells r memo P b. Done bytes work class words work' class' words' cells c k l r s'.store memo s'.fill p P b)
    × (words' ≡ written (nodes words' s'.store) words)
    × Outside l.rows l.copied work work'
    × Outside fill s'.fill class class'
Cuts bytes work class words work' class' words' c k l st known fill i p (Err z) =
    Whatever bytes work class words c k l st fill i p (λ cells r memo P b. (L : Lent) → L.pattern ≡ length words → L.class ≡ length class → outcome L (make_cut P p b) ≡ refuse z)

-- both of what is at hand
abbrev pub CuttingIn : List ℕ → List ℕ → List ℕ → List ℕ → Building → ℕ → ℕ → Type 0
CuttingIn bytes work class words s i p = Cutting bytes work class words s.catalog s.keying s.layout s.store s.fill i p

abbrev pub CutsIn : List ℕ → List ℕ → List ℕ → List ℕ → List ℕ → List ℕ → List ℕ → Building → ℕ → ℕ → Result (Building × Counted) Refusal → Type 0
CutsIn bytes work class words work' class' words' s i p r = Cuts bytes work class words work' class' words' s.catalog s.keying s.layout s.store s.memo s.fill i p r

-- ---- the definition alone
-- a cut class is added
made_is : (P : Pack) (p : ℕ) (b : Built) → make_cut P p b ≡ add_class b (cut_top P p b.store).store (cut_class P p (cut_top P p b.store).number)
unfolding make_cut
made_is P p b = refl

-- its variables' numbers
cut-numbers : (P : Pack) → Proper P → (p : ℕ) → p < length P.symbols → (n : ℕ) → 16 ≤ n → (s : List Node) → VariablesBelow n s → VariablesBelow n (cut_top P p s).store
cut-numbers P Q p h n m s B = variables_cut P Q.few p h n (omega (arith, m, (Q.good.symbols p h).arity)) s B

-- ---- at entry
module _ (bytes work class words cells : List ℕ) (c : Catalog) (k : Keying) (l : Layout) (r : Counts) (st : Store) (memo : Memo) (fill i p : ℕ) (P : Pack) (b : Built)
    (A : Asks bytes work class words cells c k l r st memo fill i p P b) where
  -- the predicate is recorded
  pub asks_symbol : p < length (records_of work c 1)
  asks_symbol = omega (arith, A.symbol, length_symbols bytes (records_of work c) P A.standing.reads)

  -- the rows end within
  pub asks_fits : fill ≤ length class
  asks_fits = A.standing.rows.fits

  -- a conclusion of the store, and of what is built
  built-cut : cut_top P p (nodes words st) ≡ cut_top P p b.store
  built-cut = ap (cut_top P p) A.standing.store

  -- there is no room for a pattern
  pub asks_short : (work' : List ℕ) → Unconcluded bytes work words work' c (lifted_of l) st p → (L : Lent) → L.pattern ≡ length words → outcome L (make_cut P p b) ≡ refuse (Short 2)
  asks_short work' C L e =
      ap (outcome L) (made_is P p b)
      ∙ add_short_patterns L b (cut_top P p b.store).store (cut_class P p (cut_top P p b.store).number)
      (omega (arith, e, C.short P A.standing.reads A.standing.proper, ap (λ (o : Stored). length (pattern_words o.store)) built-cut))

  -- ---- when the conclusion is in the store
  module _ (work₁ words₁ : List ℕ) (q : Pattern) (st' : Store) (long : length words₁ ≡ length words) (C : Concluded bytes work words work₁ words₁ c (lifted_of l) st p q st') where
    -- its class
    abbrev x : Class
    x = cut_class P p q.0

    -- as the definition has it
    cut_is : cut_top P p b.store ≡ stored q.0 (nodes words₁ st')
    cut_is = sym built-cut ∙ C.is P A.standing.reads A.standing.proper

    -- what is added
    made-adds : make_cut P p b ≡ add_class b (nodes words₁ st') x
    made-adds = made_is P p b ∙ ap (λ (o : Stored). add_class b o.store (cut_class P p o.number)) cut_is

    -- the pack is as it was
    pub asked_reads : Reads bytes (records_of work₁ c) P
    asked_reads =
        reads_on bytes work work₁ c (laid_same bytes work words c (lifted_of l) st A.standing.lifts.laid work₁ C.apart.long C.apart.ahead) A.standing.lifts.laid.held.cataloged P A.standing.reads

    -- it may be read
    pub asked-readable : Readable bytes work₁ c
    asked-readable = record { cataloged = C.lifts.laid.held.cataloged; pack = P; reads = asked_reads }

    -- the predicate is recorded still
    pub asked-symbol : p < length (records_of work₁ c 1)
    asked-symbol = omega (arith, A.symbol, length_symbols bytes (records_of work₁ c) P asked_reads)

    -- its patterns fit
    patterns_fit : length (pattern_words (nodes words₁ st')) ≤ length words
    patterns_fit = omega (arith, begins_long (nodes words₁ st') words₁ C.lifts.laid.index.placed.begins, long)

    -- the store has grown by them
    asked-grown : Grown bytes work words cells work₁ words₁ c l st' memo b x
    asked-grown =
        let S = A.standing in
        let laid = S.placed.laid in
        let store : (cut_top P p b.store).store ≡ nodes words₁ st' = ap (λ (o : Stored). o.store) cut_is in
        let I : Interning b.store (stored q.0 (nodes words₁ st')) = subst (Interning b.store) cut_is (cut_patterns P S.proper.good S.proper.few p A.symbol b.store (subst Patterns S.store S.patterns)) in
        record {
          ahead = record { long = C.apart.long; words = C.apart.ahead };
          long = long;
          lifts = C.lifts;
          patterns = I.patterns;
          numbers =
              subst (VariablesBelow (length cells + 16)) store
              (cut-numbers P S.proper p A.symbol (length cells + 16) (omega arith) b.store (subst (VariablesBelow (length cells + 16)) S.store S.numbers));
          grows = I.grows;
          remembers =
              subst (λ (t : List ℕ). Remembers t memo)
              (sym (part_same l.copied (l.walk - l.copied) work₁ work (omega (arith, laid.memo, laid.stack, laid.variables, laid.table, laid.inside, C.apart.long)) (omega (arith, laid.memo, laid.stack, laid.variables, laid.table, laid.inside))
              (λ j h. C.apart.behind (l.copied + j) (omega arith))))
              S.remembers;
          stored = I.inside;
          few = omega (arith, length-map (inputs_of P p) (λ s. true), (S.proper.good.symbols p A.symbol).arity);
        }

    -- one class more
    one_more : length b.classes < length (keys_of P).classes
    one_more = omega (arith, A.number, A.more)

    module _ (n : ℕ) (N : OfPack bytes work₁ c (λ R. length (inputs_of R p)) n) where
      -- the variables are n
      many : length x.flex ≡ n
      many = length-map (inputs_of P p) (λ s. true) ∙ sym (N P asked_reads)

      -- they are few
      pub asked_few : n ≤ 16
      asked_few = omega (arith, N P asked_reads, (A.standing.proper.good.symbols p A.symbol).arity)

      -- there is no room for the row
      pub asked_short : length class - fill < 3 + n → (L : Lent) → L.pattern ≡ length words → L.class ≡ length class → outcome L (make_cut P p b) ≡ refuse (Short 1)
      asked_short h L e f =
          ap (outcome L) made-adds
          ∙ add_short_row L b (nodes words₁ st') x (omega (arith, e, patterns_fit)) (omega (arith, h, f, many, A.standing.filled, asks_fits))

      module _ (h : 3 + n ≤ length class - fill) where
        -- the row may be written
        pub asked_writing : length class < 4294967296 → Writing work₁ class k l fill i n
        asked_writing small =
            let m = grown-counted bytes work class words cells work₁ words₁ c k l r st st' memo memo fill P b x A.standing asked-grown one_more in
            let o = grown_inside bytes work class words cells work₁ words₁ c k l r st st' memo memo fill P b x A.standing asked-grown one_more in
            record { counted = omega (arith, m, A.number); place = omega (arith, o, A.number); room = omega (arith, h, asks_fits); small = small }

        module _ (work₂ class₂ : List ℕ) (W : Writes work₁ class work₂ class₂ k l fill i q.0 n) where
          -- nothing else was written
          pub asked-places : Outside l.rows l.copied work work₂
          asked-places =
              let g = grown-place bytes work class words cells work₁ words₁ c k l r st st' memo memo fill P b x A.standing asked-grown one_more in
              let O = W.begun.places in
              record {
                long = O.long ∙ C.apart.long;
                ahead = λ j m. O.ahead j (omega arith) ∙ C.apart.ahead j (omega (arith, g));
                behind = λ j m. O.behind j (omega (arith, g, A.number, A.standing.placed.laid.index)) ∙ C.apart.behind j m;
              }

          -- of the class buffer neither
          pub asked-rows : Outside fill (fill + 3 + n) class class₂
          asked-rows =
              let O = W.begun.rows in
              let M = W.marked.outside in
              record { long = M.long ∙ O.long; ahead = λ j m. M.ahead j (omega arith) ∙ O.ahead j m; behind = λ j m. M.behind j m ∙ O.behind j (omega arith) }

          -- the class is made
          pub asked-done : Done bytes work class words work₂ class₂ words₁ cells c k l r st' memo (fill + 3 + n) p P b
          asked-done =
              let S = A.standing in
              let count = grown-count bytes work class words cells work₁ words₁ c k l r st st' memo memo fill P b x S asked-grown one_more in
              let Y : Writes work₁ class work₂ class₂ k l fill (length b.classes) q.0 n = subst (λ (j : ℕ). Writes work₁ class work₂ class₂ k l fill j q.0 n) A.number W in
              let R = writes_row work₁ class work₂ class₂ k l fill (length b.classes) q.0 n x (inputs_of P p) Y refl refl (N P asked_reads) (get_or (keys_of P).classes (length b.classes) no_keyed).count count in
              let D = grown-adds bytes work class words cells work₁ words₁ c k l r st st' memo memo fill P b x S asked-grown one_more work₂ Y.between class₂ q.0 _ n Y.begun R in
              let e : fill + 3 + length x.flex ≡ fill + 3 + n = ap (λ (j : ℕ). fill + 3 + j) many in
              record {
                built = built_with b (nodes words₁ st') x;
                standing =
                    subst (λ (f : ℕ). Standing bytes work₂ class₂ words₁ cells c k l r st' memo f P (built_with b (nodes words₁ st') x)) e
                    (standing_more bytes work class words cells work₂ class₂ words₁ c k l r st st' memo memo fill P b x S D);
                is = λ L u v. ap (outcome L) made-adds ∙ add_fine L b (nodes words₁ st') x (omega (arith, u, patterns_fit)) (omega (arith, v, h, many, S.filled, asks_fits));
                longer = length-append b.classes (x ∷ []);
                conclusion = q.0;
                last = refl;
                grows = asked-grown.grows;
              }
