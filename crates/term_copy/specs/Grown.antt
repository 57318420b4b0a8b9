-- One node's copy is the definition's: what the words hold then.
use Rattle.std.specs.Prelude.{◌≡◌, ℕ, suc, ◌+◌, ◌*◌, ◌-◌, ◌/◌, ◌≤◌, ◌<◌, eqb, get_or, set}
use Rattle.std.proofs.Math.Path.{refl, ap}
use Rattle.std.proofs.Common.{sym, ap₂, ◌∙◌, subst, arith, length-append, get_or-set_same, get_or-set_other}
use Rattle.std.proofs.Math.Bool.{true, false}
use mathlib.Core.List.{List, [], ◌∷◌, ◌++◌, map}
use Rattle.std.proofs.Math.Option.{Option, none, some}
use borrow.Author.Tests.{eqb-true, eqb-false, eq-eqb, ne_eqb}
use Rattle.std.proofs.Math.ListN.{length}
use Rattle.definition.specs.Test.{is, see}
use Rattle.definition.specs.Pack.{Node, no_node}
use Rattle.definition.specs.Store.{is_variable, variable_head, below}
use Rattle.definition.specs.Good.{Below}
use Rattle.definition.proofs.Laws.Grow.{below_more}
use Rattle.definition.specs.Verdict.{Bound, value_of}
use Rattle.definition.specs.Graph.{Vertex, applied, cells, push}
use Rattle.definition.specs.Analysis.{copied, Copy, pairing, copy_node}
use Rattle.definition.specs.Classes.{is_some}
use Rattle.theory.specs.Copies.Terms.{below-applied, Patterns}
use Rattle.theory.specs.Copies.Parts.{kids_in, kids_inside}
use Rattle.theory.specs.Copies.Copying.{value_of_new, value_of_old, looked, newest, older}
use Rattle.theory.specs.Walks.Walk.{Known}
use Rattle.theory.specs.Walks.Memo.{has, has_value}
use Rattle.theory.specs.Walks.CopyWalk.{is_copied, copy_at}
use Rattle.base.specs.Word.{word_of}
use Rattle.base.specs.Part.{part, part_same, length_part}
use Rattle.base.specs.Outside.{Outside}
use Rattle.base.specs.Lent.{lent-ahead, lent-behind}
use Rattle.store.specs.Words.{key_of, words-most, begins_long}
use Rattle.store.specs.Stored.{Stored, nodes}
use Rattle.memo.specs.Recall.{recall, length-recall, Remembers}
use Rattle.store.specs.declared.nodes.Store.{Store}
use Rattle.memo.specs.declared.memo.Memo.{Memo}
use Rattle.graph.specs.Cells.{Shows, cells-more, marks_in}
use Rattle.theory.specs.Unification.Inner.{inner_more}
use Rattle.term_copy.specs.declared.node.Copying.{Copying}
use Rattle.term_copy.specs.Held.{index_in, Room, Holding}
use Rattle.term_copy.specs.Places.{table_in, rows_at, rows_in, Apart, value_in, or_zero, copy_in, Beside}
use Rattle.term_copy.specs.Steps.{noted, vertex_for, number_for, Key, CopiedTo, NoRoom}
use Rattle.base.specs.declared.id.Node.{Node as Id}
use Rattle.graph.specs.declared.graph.Graph.{Graph as Counts}

-- ---- numbers that are nodes
-- there are no more nodes than there are two words for
pub nodes-most : (index words : List ℕ) (st : Store) → Stored index words st → length (nodes words st) ≤ length words / 2
nodes-most index words st S = omega (arith, words-most (nodes words st), begins_long (nodes words st) words S.placed.begins)

-- the memo has room for each
pub memo_room : (work words cells flex : List ℕ) (l : Copying) (st : Store) (memo : Memo) → Apart work cells flex l → Room words l → Stored (index_in work l) words st → length (nodes words st) ≤ length (recall (table_in work l) memo)
memo_room work words cells flex l st memo A R S =
    let t = length_part l.copied (l.walk - l.copied) work (omega (arith, A.table, A.stack, A.marks, A.rows)) in
    omega (arith, nodes-most (index_in work l) words st S, R.table, length-recall (table_in work l) memo)

-- ---- a node's key can be copied
module _ (work words cells flex : List ℕ) (l : Copying) (st : Store) (memo : Memo) (P : Patterns (nodes words st)) (A : Apart work cells flex l) (R : Room words l) (S : Stored (index_in work l) words st) (p : ℕ) (given : p < length (nodes words st)) where
  -- the node
  abbrev n : Node
  n = get_or (nodes words st) p no_node

  -- its key is as copying asks
  pub key-copied : Key work l memo (key_of n)
  unfolding is_variable
  key-copied = record {
    some = omega arith;
    variable = λ e. omega (arith, P.twos p given (eq-eqb n.head variable_head e));
    applied = λ d.
        let f : is_variable n ≡ false = ne_eqb n.head variable_head d in
        record {
          some = omega arith;
          few = omega (arith, P.few p given f);
          known = below_more (length (nodes words st)) (length (recall (table_in work l) memo)) n.args (memo_room work words cells flex l st memo A R S)
              (subst (λ (xs : List ℕ). Below (length (nodes words st)) xs) (below-applied n f) (kids_inside (nodes words st) P.earlier p given));
        };
  }

-- ---- what writing on the stack leaves
pub holding_stack : (work work' words cells flex : List ℕ) (l : Copying) (st : Store) (memo : Memo) (g : Counts) (c : Copy) → Holding work words cells flex l st memo g c → Outside l.walk l.variables work work' → Holding work' words cells flex l st memo g c
holding_stack work work' words cells flex l st memo g c H O =
    let A = H.apart in
    let i : index_in work' l ≡ index_in work l = lent-ahead l.walk l.variables work work' O l.index l.copied A.index A.table (omega (arith, A.table, A.stack, A.marks, A.rows)) in
    let t : table_in work' l ≡ table_in work l = lent-ahead l.walk l.variables work work' O l.copied l.walk A.table (omega arith) (omega (arith, A.stack, A.marks, A.rows)) in
    let r : rows_in work' cells l ≡ rows_in work cells l = lent-behind l.walk l.variables work work' O l.graph (rows_at cells l) (omega arith) (omega (arith, A.marks)) A.rows in
    record {
      apart = record { index = A.index; table = A.table; stack = A.stack; marks = A.marks; rows = omega (arith, A.rows, O.long) };
      room = H.room;
      stored = subst (λ (xs : List ℕ). Stored xs words st) (sym i) H.stored;
      remembers = subst (λ (xs : List ℕ). Remembers xs memo) (sym t) H.remembers;
      shows = subst (λ (xs : List ℕ). Shows cells xs g c.graph) (sym r) H.shows;
      inner = H.inner;
      values = λ q. ap (λ (xs : List ℕ). get_or (recall xs memo) q none) t ∙ H.values q;
      inside = H.inside;
      variables = λ k h. O.behind (l.variables + k) (omega arith) ∙ H.variables k h;
    }

-- ---- a node's copy
-- the variables with one more, if it is one
abbrev pub noting : Option ℕ → ℕ → List Bound → List Bound
noting none x vs = vs
noting (some k) x vs = pairing k x ∷ vs

-- a copy under way with a node more
abbrev pub grown_copy : Copy → ℕ → Vertex → Option ℕ → Copy
grown_copy c p v o = record { graph = c.graph ++ (v ∷ []); nodes = pairing p (length c.graph) ∷ c.nodes; variables = noting o (length c.graph) c.variables }

-- a variable's word then
noted-word : (o : Option ℕ) (x j : ℕ) (vs : List Bound) → noted o x j (word_of (value_of j vs)) ≡ word_of (value_of j (noting o x vs))
noted-word none x j vs = refl
noted-word (some k) x j vs = elim (see (eqb k j)) [
  | is true e ↦ let q : j ≡ k = sym (eqb-true k j e) in rw (e, noted) (ap word_of (sym (ap (λ (i : ℕ). value_of i (pairing k x ∷ vs)) q ∙ value_of_new k x vs)))
  | is false e ↦ rw (e, noted) (ap word_of (sym (value_of_old k x vs j (λ q. eqb-false k j e (sym q)))))
]

module _ (work words cells₀ flex : List ℕ) (l : Copying) (st : Store) (memo : Memo) (g : Counts) (c : Copy) (H : Holding work words cells₀ flex l st memo g c) where
  -- what the memo says a node was copied to
  pub copy_is : (q : ℕ) → copy_in work l memo q ≡ copied c.nodes q
  unfolding copy_in copied
  copy_is q = ap or_zero (H.values q) ∙ same (value_of q c.nodes)
    where
      -- no copy is 0
      same : (o : Option ℕ) → or_zero o ≡ elim o [ none ↦ 0 | some x ↦ x ]
      same none = refl
      same (some x) = refl

  -- and nodes' copies
  copies_are : (xs : List ℕ) → map (copy_in work l memo) xs ≡ map (copied c.nodes) xs
  copies_are [] = refl
  copies_are (x ∷ xs) = ap₂ ◌∷◌ (copy_is x) (copies_are xs)

  -- copies of known nodes are nodes
  copies_inside : (xs : List ℕ) → Known is_copied c xs → Below (length c.graph) (map (copy_in work l memo) xs)
  unfolding is_copied
  copies_inside [] k = tt
  copies_inside (x ∷ xs) k = (subst (λ (i : ℕ). i < length c.graph) (sym (copy_is x)) (H.inside x (copied c.nodes x) (has_value c.nodes x k.0)), copies_inside xs k.1)

  -- whether a node was copied, by its word
  pub copied_is : (q : ℕ) → is_copied c q ≡ is_some (value_in work l memo q)
  unfolding is_copied has
  copied_is q = ap is_some (sym (H.values q))

  module _ (p : ℕ) where
    -- the node
    abbrev m : Node
    m = get_or (nodes words st) p no_node

    -- its copy
    abbrev w : Vertex
    w = vertex_for work l memo flex (key_of m)

    -- the variable that it is
    abbrev o : Option ℕ
    o = number_for (key_of m)

    -- what a node's copy makes of the copy under way
    pub copy-grown : copy_at (nodes words st) (marks_in flex) p c ≡ grown_copy c p w o
    unfolding copy_at copy_node is_variable push
    copy-grown = elim (see (eqb m.head variable_head)) [
      | is true e ↦ rw (e, copy_node, vertex_for, number_for)
      | is false e ↦ rw (e, copy_node, vertex_for, number_for) (ap (λ (xs : List ℕ). grown_copy c p (applied m.head xs) none) (sym (copies_are m.args)))
    ]

    -- its copy is joined to none
    bare : w.link ≡ none
    bare = elim (see (eqb m.head variable_head)) [ is true e ↦ rw (e, vertex_for) | is false e ↦ rw (e, vertex_for) ]

    -- over nodes
    args_inside : Known is_copied c (kids_in (nodes words st) p) → Below (length c.graph) w.args
    unfolding below is_variable
    args_inside k = elim (see (eqb m.head variable_head)) [
      | is true e ↦ rw (e, vertex_for) tt
      | is false e ↦ rw (e, vertex_for) (copies_inside m.args (subst (λ (xs : List ℕ). Known is_copied c xs) (below-applied m e) k))
    ]

    -- there is no room for it
    pub short_more : (work' cells' : List ℕ) → NoRoom work work' cells₀ cells' flex l memo g (key_of m) → length cells₀ < cells (copy_at (nodes words st) (marks_in flex) p c).graph
    short_more work' cells' F = let e = ap (λ (d : Copy). cells d.graph) copy-grown in omega (arith, F.0 c.graph H.shows, cells-more c.graph w)

    -- it is held
    module _ (work' cells' : List ℕ) (x : Id) (g' : Counts) (F : CopiedTo work work' cells₀ cells' flex l memo g p (key_of m) x g') (long : length cells' ≡ length cells₀) (given : p < length (nodes words st)) (k : Known is_copied c (kids_in (nodes words st) p)) where
      -- what was written is apart
      abbrev B : Beside work work' cells₀ l
      B = F.1.beside

      -- its number is the next
      number : x.0 ≡ length c.graph
      number = (F.0.0 c.graph H.shows).0

      -- the memo has a place for it
      room : p < length (recall (table_in work l) memo)
      room = omega (arith, given, memo_room work words cells₀ flex l st memo H.apart H.room H.stored)

      -- what the memo has then
      value_is : (q : ℕ) → value_in work' l memo q ≡ value_of q (pairing p (length c.graph) ∷ c.nodes)
      value_is q = ap (λ (os : List (Option ℕ)). get_or os q none) F.4 ∙ elim (see (eqb p q)) [
        | is true e ↦
            let f : q ≡ p = sym (eqb-true p q e) in
            ap (λ (i : ℕ). get_or (set (recall (table_in work l) memo) p (some x.0)) i none) f ∙ get_or-set_same (recall (table_in work l) memo) p (some x.0) none room
            ∙ ap some number ∙ sym (ap (λ (i : ℕ). value_of i (pairing p (length c.graph) ∷ c.nodes)) f ∙ value_of_new p (length c.graph) c.nodes)
        | is false e ↦
            let d : q ≡ p → ⊥ = λ f. eqb-false p q e (sym f) in
            get_or-set_other (recall (table_in work l) memo) p q (some x.0) none d ∙ H.values q ∙ sym (value_of_old p (length c.graph) c.nodes q d)
      ]

      -- all of it together
      pub holding_more : Holding work' words cells' flex l st memo g' (copy_at (nodes words st) (marks_in flex) p c)
      holding_more =
          let A = H.apart in
          let grown : length (c.graph ++ (w ∷ [])) ≡ suc (length c.graph) = length-append c.graph (w ∷ []) ∙ omega arith in
          let i : index_in work' l ≡ index_in work l = part_same l.index (l.copied - l.index) work' work (omega (arith, B.long, A.index, A.table, A.stack, A.marks, A.rows)) (omega (arith, A.index, A.table, A.stack, A.marks, A.rows)) (λ j h. B.ahead (l.index + j) (omega (arith, A.index))) in
          let r : rows_in work' cells₀ l ≡ rows_in work' cells' l = ap (λ (j : ℕ). part l.graph (l.graph + (5 * j + 5) - l.graph) work') (sym long) in
          subst (λ (d : Copy). Holding work' words cells' flex l st memo g' d) (sym copy-grown) (record {
            apart = record { index = A.index; table = A.table; stack = A.stack; marks = A.marks; rows = omega (arith, A.rows, B.long, long) };
            room = H.room;
            stored = subst (λ (xs : List ℕ). Stored xs words st) (sym i) H.stored;
            remembers = F.3;
            shows = subst (λ (xs : List ℕ). Shows cells' xs g' (c.graph ++ (w ∷ []))) r (F.0.0 c.graph H.shows).1;
            inner = inner_more c.graph w bare H.inner (args_inside k);
            values = value_is;
            inside = λ q y e. elim (looked p (length c.graph) c.nodes q y e) [
              | newest a b ↦ omega (arith, b, grown)
              | older a ↦ omega (arith, H.inside q y a, grown)
            ];
            variables = λ j h. F.2 j h ∙ ap₂ (λ (a b : ℕ). noted o a j b) number (H.variables j h) ∙ noted-word o (length c.graph) j c.variables;
          })
