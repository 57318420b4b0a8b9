-- The call's own functions: what they answer.
use Rattle.std.specs.Prelude.{Some, None, Result, Err}
use Rattle.std.specs.Prelude.{◌≡◌, Bool, true, false, List, ℕ, ◌+◌, ◌*◌, ◌-◌, ◌/◌, ◌≤◌}
use Rattle.std.proofs.Math.Path.{refl, sym, ap, subst}
use Rattle.std.proofs.Common.{◌∙◌, arith, le-leb}
use Rattle.std.proofs.lemmas.Bool.{lt-leb}
use Rattle.std.proofs.Math.ListN.{length}
use Rattle.definition.specs.Pack.{Pack}
use Rattle.definition.specs.Frame.{fine}
use Rattle.definition.specs.Parse.{parse}
use Rattle.definition.specs.Store.{Stored as Kept, pattern_words}
use Rattle.definition.specs.Answer.{Lent, answer_of}
use Rattle.definition.specs.declared.Refusal.TheVariants.{Short as ShortOf}
use Rattle.base.specs.Part.{part}
use Rattle.base.specs.declared.id.Pattern.{Pattern}
use Rattle.store.specs.Stored.{Stored, nodes}
use Rattle.store.specs.Words.{begins_long}
use Rattle.store.specs.declared.nodes.Store.{Store}
use Rattle.pack_tables.specs.Catalog.{records_of}
use Rattle.pack_tables.specs.SameTables.{Same, same_then}
use Rattle.pack_tables.specs.declared.catalog.Catalog.{Catalog}
use Rattle.pack_read.specs.Reads.{Reads}
use Rattle.pack_read.specs.Held.{Held, OfHeld, reads_on, reads_back}
use Rattle.pack_reader.specs.Parsed.{tables_of, Represents}
use Rattle.pack_reader.specs.Said.{reads_there, parsed_proper}
use Rattle.term_lift.specs.Nodes.{laid_same}
use Rattle.term_lift.specs.declared.lift.Lifted.{Lifted}
use Rattle.theory.specs.Walks.Again.{stored}
use Rattle.host_walk.specs.Places.{Lays, Stores}
use Rattle.emit_state.specs.Places.{index_in, Laid}
use Rattle.host_search.specs.declared.asked.Query.{Query}
use Rattle.host_search.specs.Came.{lent_to}
use Rattle.host_search.specs.Searched.{is_asked, judged, sought, node_searched, pack_searched}
use Rattle.host_search.specs.Ends.{Comes, refused_by}
use Rattle.host_search.specs.Judged.{Judges}
use Rattle.host_search.specs.Asked.{asked-given}
use Rattle.host_search.specs.Begun.{Beginning, BegunFrom}
use Rattle.host_search.specs.Opened.{places_for, Asking, asking_held, asking_end}
use Rattle.definition.specs.declared.Answer.{Answer}

-- the lengths lent
abbrev pub lent_by : List ℕ → List ℕ → ℕ → ℕ → Lent
lent_by bytes work patterns text = lent_to (length bytes) (length work) patterns text

-- what is answered of whatever pack is held
abbrev pub FromNode : List ℕ → List ℕ → List ℕ → ℕ → ℕ → Catalog → Query → Result (ℕ × ℕ) Answer → Type 0
FromNode bytes work proof' patterns text c q r = OfHeld bytes work c (λ P. Comes proof' (node_searched (lent_by bytes work patterns text) P q.node q.depth q.name) r)

module _ (bytes work words : List ℕ) (text : ℕ) (c : Catalog) (q : Query) (K : Asking bytes work (length words) text c q) (l : Lifted) (L : Lays work (length words) c l) where
  -- the pack is held
  abbrev held : Held bytes work c
  held = asking_held bytes work words text c q K

  module _ (work₁ : List ℕ) (st₀ : Store) (T : Stores bytes work work₁ words c l st₀) (work₂ words' : List ℕ) (long : length words' ≡ length words) where
    -- the pack as it is read behind the first part
    reads_first : (P : Pack) → Reads bytes (records_of work c) P → Reads bytes (records_of work₁ c) P
    reads_first P R = reads_on bytes work work₁ c T.same held.cataloged P R

    -- the patterns have no room
    pub node_short : Judges bytes work₁ words work₂ words' c l q.node None → (proof' : List ℕ) (r : Result (ℕ × ℕ) Answer) → r ≡ refused_by (ShortOf 2) → FromNode bytes work proof' (length words) text c q r
    unfolding node_searched answer_of
    node_short J proof' r e P R Q =
        let h = J P (reads_first P R) Q in
        subst (λ (x : Result (ℕ × ℕ) Answer). Comes proof' (node_searched (lent_by bytes work (length words) text) P q.node q.depth q.name) x) (sym e) (tt, sym (rw (lt-leb _ _ h, node_searched)))

    module _ (j : Pattern) (st : Store) (J : Judges bytes work₁ words work₂ words' c l q.node (Some (j, st))) where
      -- the tables are as they were
      same : Same work work₂ c
      same = same_then work work₁ work₂ c T.same (laid_same bytes work₁ words c l st₀ T.lifts.laid work₂ J.2.long J.2.ahead)

      -- as many words
      many : length work₂ ≡ length work
      many = same.long

      -- the search has room
      laid : Laid work₂ (places_for (length words') c l q.name)
      laid =
          let F = K.opened.there.fit in
          let k : c.cap ≡ length bytes / 7 + 1 = ap (λ (x : Catalog). x.cap) K.tables in
          record {
            tables = omega (arith, L.at);
            index = omega (arith, L.end, long);
            within = omega (arith, asking_end bytes work words text c q K l L, long, k, many, F.least);
            small = omega (arith, many, F.work);
          }

      -- the store's index is lifting's
      index : Stored (index_in work₂ (places_for (length words') c l q.name)) words' st
      unfolding part
      index =
          let e : l.end - (l.at + 3 * l.nodes) ≡ l.at + 3 * l.nodes + 4 * (length words' / 2) + 1 - (l.at + 3 * l.nodes) = omega (arith, L.end, long) in
          subst (λ (k : ℕ). Stored (part (l.at + 3 * l.nodes) k work₂) words' st) e J.0.laid.index

      -- the judgment's patterns
      are : OfHeld bytes work c (λ P. judged P q.node ≡ stored j.0 (nodes words' st))
      are P R Q = J.1 P (reads_first P R) Q

      -- the search may begin
      pub node_begins : Beginning bytes work₂ words' text (places_for (length words') c l q.name) st j.0 q
      node_begins =
          let back = reads_back bytes work work₂ c same held.cataloged in
          record {
            held = J.0.laid.held;
            laid = laid;
            patterns = index;
            room = refl;
            few = omega (arith, long, K.opened.there.fit.pattern);
            text_few = K.opened.text_few;
            name = refl;
            given = λ P R Q. asked-given P q.node q.depth (K.asked P (back P R) Q);
            judgment = λ P R Q. are P (back P R) Q;
          }

      -- what is answered of it
      pub node-sought : (proof' : List ℕ) (r : Result (ℕ × ℕ) Answer) → BegunFrom bytes work₂ words' proof' text (places_for (length words') c l q.name) st j.0 q r → FromNode bytes work proof' (length words) text c q r
      unfolding node_searched
      node-sought proof' r B P R Q =
          let e = are P R Q in
          let C = B (lent_by bytes work (length words) text) (sym long) refl P (reads_on bytes work work₂ c same held.cataloged P R) Q in
          let few : length (pattern_words (judged P q.node).store) ≤ length words =
          omega (arith, ap (λ (x : Kept). length (pattern_words x.store)) e, begins_long (nodes words' st) words' J.0.laid.index.placed.begins, long) in
          (C.0, C.1 ∙ ap (sought (lent_by bytes work (length words) text) P q.depth q.name) (sym e) ∙ sym (rw (le-leb _ _ few, node_searched)))

-- ---- the pack
abbrev pub FromPack : List ℕ → List ℕ → List ℕ → ℕ → ℕ → Query → Result (ℕ × ℕ) Answer → Type 0
FromPack bytes work proof' patterns text q r = (P : Pack) → parse bytes ≡ fine P → Represents bytes work P → Comes proof' (pack_searched (lent_by bytes work patterns text) P q.node q.depth q.name) r

-- what is asked for is there
pub pack_node : (bytes work proof' : List ℕ) (patterns text : ℕ) (c : Catalog) (q : Query) (r : Result (ℕ × ℕ) Answer) → c ≡ tables_of (length bytes) → (b : Bool) → OfHeld bytes work c (λ P. b ≡ is_asked P q.node q.depth) → b ≡ true
    → FromNode bytes work proof' patterns text c q r → FromPack bytes work proof' patterns text q r
unfolding pack_searched
pack_node bytes work proof' patterns text c q r e b A t N P f R =
    let S = reads_there bytes work c e P R in
    let Q = parsed_proper bytes P f in
    let C = N P S Q in
    (C.0, C.1 ∙ sym (rw (sym (A P S Q) ∙ t, pack_searched)))

-- it is not
pub pack_wrong : (bytes work proof' : List ℕ) (patterns text : ℕ) (c : Catalog) (q : Query) → c ≡ tables_of (length bytes) → (b : Bool) → OfHeld bytes work c (λ P. b ≡ is_asked P q.node q.depth) → b ≡ false
    → FromPack bytes work proof' patterns text q (Err (record { code = 12; place = 0 }))
unfolding pack_searched
pack_wrong bytes work proof' patterns text c q e b A t P f R = (tt, sym (rw (sym (A P (reads_there bytes work c e P R) (parsed_proper bytes P f)) ∙ t, pack_searched)))

-- where work is as long as it was
pub pack_as : (bytes work proof' : List ℕ) (patterns text n : ℕ) (q : Query) (P : Pack) (r : Result (ℕ × ℕ) Answer) → length work ≡ n → Comes proof' (pack_searched (lent_by bytes work patterns text) P q.node q.depth q.name) r
    → Comes proof' (pack_searched (lent_to (length bytes) n patterns text) P q.node q.depth q.name) r
pack_as bytes work proof' patterns text n q P r e C = subst (λ (k : ℕ). Comes proof' (pack_searched (lent_to (length bytes) k patterns text) P q.node q.depth q.name) r) e C
