-- Fresh variables interned one by one: with each, what is left to do gives the same numbers and the same store.
use Rattle.std.specs.Prelude.{Option, Some, None}
use Rattle.std.specs.Prelude.{◌≡◌, refl, List, [], ◌∷◌, ◌++◌, ℕ, suc, ◌+◌, ◌≤◌, ◌<◌, length, get_or, set, take, drop}
use Rattle.std.proofs.Common.{sym, ap, ◌∙◌, subst, append_assoc, append-nil, arith, add-one, length-set, drop_of_length-le, take-suc, take-suc-set, drop-cons}
use Rattle.definition.specs.Pack.{Node, Pack, symbol_of}
use Rattle.definition.specs.Store.{variable_head, variable_node, Stored, intern, pattern_words}
use Rattle.definition.specs.Analysis.{StoredAll}
use Rattle.definition.specs.Classes.{fresh_variables}
use Rattle.theory.specs.Patterns.Interned.{Grows, grows_none, grows_then, interned}
use Rattle.theory.specs.Walks.Again.{stored}
use Rattle.base.specs.Outside.{outside_none, outside_then}
use Rattle.store.specs.Words.{node_with}
use Rattle.store.specs.Stored.{nodes, written}
use Rattle.store.specs.Table.{begins_written}
use Rattle.store.specs.declared.nodes.Store.{Store}
use Rattle.base.specs.declared.id.Pattern.{Pattern}
use Rattle.pack_tables.specs.Catalog.{records_of}
use Rattle.pack_tables.specs.declared.catalog.Catalog.{Catalog}
use Rattle.pack_read.specs.Reads.{Reads, length_symbols}
use Rattle.pack_read.specs.Says.{Readable, OfPack}
use Rattle.pack_read.specs.Held.{OfHeld, reads_on}
use Rattle.term_lift.specs.Lifts.{Lifts, Apart}
use Rattle.term_lift.specs.Nodes.{laid_same}
use Rattle.term_lift.specs.Runs.{written_again, words-grow}
use Rattle.term_lift.specs.declared.lift.Lifted.{Lifted}
use Rattle.term_lift.specs.Kept.{Indexed, Interns}
use Rattle.theory.specs.Making.Interns.{fresh_grows}

-- the sorts of a predicate's arguments
abbrev pub inputs_of : Pack → ℕ → List ℕ
inputs_of P p = (symbol_of P p).inputs

-- variables of all of them
abbrev pub variables_of : Pack → ℕ → List Node → StoredAll
variables_of P p s = fresh_variables (inputs_of P p) 0 s

-- variables of those from k on
abbrev pub rest_of : Pack → ℕ → ℕ → List Node → StoredAll
rest_of P p k s = fresh_variables (drop k (inputs_of P p)) k s

-- what holds at the start: the key's first word is the predicate, of n arguments
pub record Starts (bytes work words : List ℕ) (c : Catalog) (l : Lifted) (st : Store) (p n : ℕ) (key : List ℕ) : Type 0 where
  pub lifts : Lifts bytes work words c l st
  pub symbol : p < length (records_of work c 1)
  pub many : OfPack bytes work c (λ P. length (inputs_of P p)) n
  pub long : length key ≡ 17
  pub first : get_or key 0 0 ≡ p

-- what is left gives the whole
pub record Rest (P : Pack) (p k : ℕ) (key : List ℕ) (s₀ s : List Node) : Type 0 where
  pub numbers : List ℕ
  pub words : take (suc k) key ≡ p ∷ numbers
  pub store : (rest_of P p k s).store ≡ (variables_of P p s₀).store
  pub all : numbers ++ (rest_of P p k s).numbers ≡ (variables_of P p s₀).numbers
  pub grows : Grows s₀ s

-- k of n variables are there
pub record Goes (bytes work₀ words₀ work words : List ℕ) (c : Catalog) (l : Lifted) (st₀ st : Store) (p n k : ℕ) (key : List ℕ) : Type 0 where
  pub most : k ≤ n
  pub long : length key ≡ 17
  pub same : length words ≡ length words₀
  pub lifts : Lifts bytes work words c l st
  pub are : words ≡ written (nodes words st) words₀
  pub apart : Apart work₀ work l
  pub rest : OfHeld bytes work₀ c (λ P. Rest P p k key (nodes words₀ st₀) (nodes words st))

-- all variables are there: the definition's numbers behind the predicate, and its store, with its words written
pub record Freshened (bytes work words work' words' : List ℕ) (c : Catalog) (l : Lifted) (st : Store) (p n : ℕ) (key : List ℕ) (st' : Store) : Type 0 where
  pub lifts : Lifts bytes work' words' c l st'
  pub numbers : OfHeld bytes work c (λ P. take (suc n) key ≡ p ∷ (variables_of P p (nodes words st)).numbers)
  pub store : OfHeld bytes work c (λ P. (variables_of P p (nodes words st)).store ≡ nodes words' st')
  pub are : words' ≡ written (nodes words' st') words
  pub apart : Apart work work' l

-- there is no room for one
pub record Unfreshened (bytes work words work' : List ℕ) (c : Catalog) (l : Lifted) (st : Store) (p : ℕ) : Type 0 where
  pub short : OfHeld bytes work c (λ P. length words < length (pattern_words (variables_of P p (nodes words st)).store))
  pub apart : Apart work work' l

-- what `fresh_variables` answers
abbrev pub Freshens : List ℕ → List ℕ → List ℕ → List ℕ → List ℕ → Catalog → Lifted → Store → ℕ → ℕ → List ℕ → Option Store → Type 0
Freshens bytes work words work' words' c l st p n key (Some st') = Freshened bytes work words work' words' c l st p n key st'
Freshens bytes work words work' words' c l st p n key None = Unfreshened bytes work words work' c l st p

-- ---- the definition alone
-- none is there yet
rest-none : (P : Pack) (p : ℕ) (key : List ℕ) (s : List Node) → take (suc 0) key ≡ p ∷ [] → Rest P p 0 key s s
rest-none P p key s e = record { numbers = []; words = e; store = refl; all = refl; grows = grows_none s }

-- the next and the others
rest-next : (P : Pack) (p k : ℕ) (s : List Node) → k < length (inputs_of P p)
    → rest_of P p k s
    ≡ record {
      numbers = (intern s (variable_node k (get_or (inputs_of P p) k 0))).number ∷ (rest_of P p (suc k) (intern s (variable_node k (get_or (inputs_of P p) k 0))).store).numbers;
      store = (rest_of P p (suc k) (intern s (variable_node k (get_or (inputs_of P p) k 0))).store).store;
    }
unfolding fresh_variables
rest-next P p k s h = ap (λ (ss : List ℕ). fresh_variables ss k s) (drop-cons (inputs_of P p) k 0 h)

-- one more is there
rest_more : (P : Pack) (p k : ℕ) (key : List ℕ) (s₀ s s' : List Node) (q : ℕ) → k < length (inputs_of P p) → k + 1 < length key → Rest P p k key s₀ s
    → intern s (variable_node k (get_or (inputs_of P p) k 0)) ≡ stored q s' → Rest P p (k + 1) (set key (k + 1) q) s₀ s'
rest_more P p k key s₀ s s' q h l R e =
    let v = variable_node k (get_or (inputs_of P p) k 0) in
    let n = rest-next P p k s h in
    let f : rest_of P p k s ≡ record { numbers = q ∷ (rest_of P p (suc k) s').numbers; store = (rest_of P p (suc k) s').store } =
    n ∙ ap (λ (o : Stored). record { numbers = o.number ∷ (rest_of P p (suc k) o.store).numbers; store = (rest_of P p (suc k) o.store).store }) e in
    let z : rest_of P p (k + 1) s' ≡ rest_of P p (suc k) s' = ap (λ (j : ℕ). rest_of P p j s') (add-one k) in
    record {
      numbers = R.numbers ++ (q ∷ []);
      words = take-suc-set key (k + 1) q l ∙ ap (λ (j : ℕ). take j key ++ (q ∷ [])) (add-one k) ∙ ap (λ (ws : List ℕ). ws ++ (q ∷ [])) R.words;
      store = ap (λ (o : StoredAll). o.store) z ∙ sym (ap (λ (o : StoredAll). o.store) f) ∙ R.store;
      all =
          ap (λ (o : StoredAll). (R.numbers ++ (q ∷ [])) ++ o.numbers) z ∙ append_assoc R.numbers (q ∷ []) (rest_of P p (suc k) s').numbers
          ∙ ap (λ (o : StoredAll). R.numbers ++ o.numbers) (sym f) ∙ R.all;
      grows = grows_then s₀ s s' R.grows (subst (Grows s) (ap (λ (o : Stored). o.store) e) (interned s v).grows);
    }

-- all are
rest_all : (P : Pack) (p k : ℕ) (key : List ℕ) (s₀ s : List Node) → length (inputs_of P p) ≤ k → Rest P p k key s₀ s → (take (suc k) key ≡ p ∷ (variables_of P p s₀).numbers) × ((variables_of P p s₀).store ≡ s)
unfolding fresh_variables
rest_all P p k key s₀ s h R =
    let e : rest_of P p k s ≡ record { numbers = []; store = s } = ap (λ (ss : List ℕ). fresh_variables ss k s) (drop_of_length-le (inputs_of P p) h) in (
      R.words ∙ ap (λ (ws : List ℕ). p ∷ ws) (sym (append-nil R.numbers) ∙ ap (λ (o : StoredAll). R.numbers ++ o.numbers) (sym e) ∙ R.all),
      sym R.store ∙ ap (λ (o : StoredAll). o.store) e,
    )

-- the next one's words are no more than all have
rest_short : (P : Pack) (p k m : ℕ) (key : List ℕ) (s₀ s : List Node) → k < length (inputs_of P p) → Rest P p k key s₀ s → m < length (pattern_words (intern s (variable_node k (get_or (inputs_of P p) k 0))).store)
    → m < length (pattern_words (variables_of P p s₀).store)
rest_short P p k m key s₀ s h R short =
    let t = (intern s (variable_node k (get_or (inputs_of P p) k 0))).store in
    let g = fresh_grows (drop (suc k) (inputs_of P p)) (suc k) t in
    let e : (rest_of P p (suc k) t).store ≡ (variables_of P p s₀).store = sym (ap (λ (o : StoredAll). o.store) (rest-next P p k s h)) ∙ R.store in
    omega (arith, words-grow t (rest_of P p (suc k) t).store g, ap (λ (u : List Node). length (pattern_words u)) e)

-- a variable's key
variable-key : (k so : ℕ) → node_with (variable_head ∷ k ∷ so ∷ []) ≡ variable_node k so
unfolding node_with
variable-key k so = refl

-- ---- in the words
-- the store's index stands in work
pub lifts_indexed : (bytes work words : List ℕ) (c : Catalog) (l : Lifted) (st : Store) → Lifts bytes work words c l st → Indexed work words l st
lifts_indexed bytes work words c l st L = record { fits = L.laid.fits; inside = L.laid.inside; index = L.laid.index }

-- a predicate has few arguments
pub lifts_few : (bytes work words : List ℕ) (c : Catalog) (l : Lifted) (st : Store) (p n : ℕ) → Lifts bytes work words c l st → p < length (records_of work c 1) → OfPack bytes work c (λ P. length (inputs_of P p)) n → n ≤ 16
lifts_few bytes work words c l st p n L h N =
    let H = L.laid.held in
    omega (arith, N H.pack H.reads, (H.proper.good.symbols p (omega (arith, h, length_symbols bytes (records_of work c) H.pack H.reads))).arity)

module _ (bytes work₀ words₀ : List ℕ) (c : Catalog) (l : Lifted) (st₀ : Store) (p n : ℕ) (key₀ : List ℕ) (F : Starts bytes work₀ words₀ c l st₀ p n key₀) where
  -- few arguments
  pub starts_few : n ≤ 16
  starts_few = lifts_few bytes work₀ words₀ c l st₀ p n F.lifts F.symbol F.many

  -- at the start
  pub goes_none : Goes bytes work₀ words₀ work₀ words₀ c l st₀ st₀ p n 0 key₀
  goes_none = record {
    most = omega arith;
    long = F.long;
    same = refl;
    lifts = F.lifts;
    are = begins_written (nodes words₀ st₀) words₀ F.lifts.laid.index.placed.begins;
    apart = outside_none l.at l.end work₀;
    rest = λ P R Q. rest-none P p key₀ (nodes words₀ st₀) (take-suc key₀ 0 0 (omega (arith, F.long)) ∙ ap (λ (x : ℕ). x ∷ []) F.first);
  }

  module _ (work words : List ℕ) (st : Store) (k : ℕ) (key : List ℕ) (G : Goes bytes work₀ words₀ work words c l st₀ st p n k key) where
    -- the pack is as it was
    pub goes_reads : (P : Pack) → Reads bytes (records_of work₀ c) P → Reads bytes (records_of work c) P
    goes_reads = reads_on bytes work₀ work c (laid_same bytes work₀ words₀ c l st₀ F.lifts.laid work G.apart.long G.apart.ahead) F.lifts.laid.held.cataloged

    -- all are there
    pub goes_all : n ≤ k → Freshened bytes work₀ words₀ work words c l st₀ p n key st
    goes_all h =
        let e : suc k ≡ suc n = omega (arith, G.most) in
        let a : OfHeld bytes work₀ c (λ P. (take (suc k) key ≡ p ∷ (variables_of P p (nodes words₀ st₀)).numbers) × ((variables_of P p (nodes words₀ st₀)).store ≡ nodes words st)) =
        λ P R Q. rest_all P p k key (nodes words₀ st₀) (nodes words st) (omega (arith, h, F.many P R)) (G.rest P R Q) in
        record { lifts = G.lifts; numbers = λ P R Q. ap (λ (j : ℕ). take j key) (sym e) ∙ (a P R Q).0; store = λ P R Q. (a P R Q).1; are = G.are; apart = G.apart }

    module _ (h : k < n) where
      -- the next one's sort may be asked for
      abbrev pub goes_readable : Readable bytes work c
      goes_readable = let H = F.lifts.laid.held in record { cataloged = G.lifts.laid.held.cataloged; pack = H.pack; reads = goes_reads H.pack H.reads }

      -- its predicate is recorded
      pub goes_symbol : p < length (records_of work c 1)
      goes_symbol =
          let H = F.lifts.laid.held in
          omega (arith, F.symbol, length_symbols bytes (records_of work₀ c) H.pack H.reads, length_symbols bytes (records_of work c) H.pack (goes_reads H.pack H.reads))

      -- and has so many arguments
      pub goes_input : k < length (inputs_of F.lifts.laid.held.pack p)
      goes_input = let H = F.lifts.laid.held in omega (arith, h, F.many H.pack H.reads)

      module _ (sort : ℕ) (q : OfPack bytes work c (λ P. get_or (inputs_of P p) k 0) sort) where
        -- the next one's node
        goes_node : (P : Pack) → Reads bytes (records_of work₀ c) P → node_with (variable_head ∷ k ∷ sort ∷ []) ≡ variable_node k (get_or (inputs_of P p) k 0)
        goes_node P R = variable-key k sort ∙ ap (variable_node k) (q P (goes_reads P R))

        module _ (work' words' : List ℕ) where
          -- there is no room for it
          pub goes_short : Interns work words work' words' l st (variable_head ∷ k ∷ sort ∷ []) None → Unfreshened bytes work₀ words₀ work' c l st₀ p
          goes_short A = record {
            short = λ P R Q.
                let s : length words₀ < length (pattern_words (intern (nodes words st) (variable_node k (get_or (inputs_of P p) k 0))).store) =
                omega (arith, A.0, G.same, ap (λ (m : Node). length (pattern_words (intern (nodes words st) m).store)) (goes_node P R)) in
                rest_short P p k (length words₀) key (nodes words₀ st₀) (nodes words st) (omega (arith, h, F.many P R)) (G.rest P R Q) s;
            apart = outside_then l.at l.end work₀ work work' G.apart A.1;
          }

          -- there is
          pub goes_more : (i : Pattern) (st' : Store) → length words' ≡ length words → Interns work words work' words' l st (variable_head ∷ k ∷ sort ∷ []) (Some (i, st'))
              → Goes bytes work₀ words₀ work' words' c l st₀ st' p n (k + 1) (set key (k + 1) i.0)
          goes_more i st' e A = record {
            most = omega (arith, h);
            long = length-set key (k + 1) i.0 ∙ G.long;
            same = e ∙ G.same;
            lifts = A.0 bytes c G.lifts;
            are =
                let g : Grows (nodes words st) (nodes words' st') = subst (Grows (nodes words st)) (ap (λ (o : Stored). o.store) A.1) (interned (nodes words st) (node_with (variable_head ∷ k ∷ sort ∷ []))).grows in
                A.2 ∙ ap (written (nodes words' st')) G.are ∙ written_again (nodes words st) (nodes words' st') words₀ g;
            apart = outside_then l.at l.end work₀ work work' G.apart A.3;
            rest = λ P R Q.
                rest_more P p k key (nodes words₀ st₀) (nodes words st) (nodes words' st') i.0 (omega (arith, h, F.many P R)) (omega (arith, h, G.long, starts_few)) (G.rest P R Q)
                (ap (intern (nodes words st)) (sym (goes_node P R)) ∙ A.1);
          }
