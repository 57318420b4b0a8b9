-- A root that is read back gets its pattern's word: then the words say the state with the root read back.
use Rattle.std.specs.Prelude.{Some, None}
use Rattle.std.specs.Prelude.{◌≡◌, refl, Bool, true, false, ◌||◌, eqb, length, set}
use Rattle.std.proofs.Math.Path.{sym, ap}
use Rattle.std.proofs.Common.{ap₂, ◌∙◌, arith, ne_eqb}
use mathlib.Core.List.{List, [], ◌∷◌, ◌++◌}
use Rattle.std.proofs.Math.Option.{none, some}
use Prim.Native.Nat.{ℕ, zero, suc, ◌+◌, ◌-◌, ◌≤◌, ◌<◌}
use Rattle.std.proofs.Math.Decide.{ℕ_discrete}
use Rattle.std.proofs.Math.Numerals.{add-one}
use Rattle.std.proofs.Math.ListN.{get_or}
use Rattle.std.proofs.Math.Seq.{get_or-set_same, get_or-set_other}
use Rattle.definition.specs.Test.{is, see, never}
use Rattle.definition.specs.Pack.{Pack}
use Rattle.definition.specs.Verdict.{Bound, value_of}
use Rattle.definition.specs.Graph.{Graph, vertex, is_var}
use Rattle.definition.specs.Analysis.{number_of, resolve_variable, resolve_at}
use Rattle.theory.specs.Copies.Copying.{value_of_new, value_of_old}
use Rattle.theory.specs.Walks.Resolving.{Resolving, is_read_whole, read_root, read_made, read_others, right-root}
use Rattle.base.specs.Word.{word_of}
use Rattle.base.specs.Part.{part, part-set, part-set-before, part_same, length_part}
use Rattle.base.specs.Probe.{taken}
use Rattle.store.specs.declared.nodes.Store.{Store}
use Rattle.base.specs.declared.id.Pattern.{Pattern}
use Rattle.pack_tables.specs.declared.catalog.Catalog.{Catalog}
use Rattle.term_lift.specs.Lifts.{index_in}
use Rattle.term_lift.specs.declared.lift.Lifted.{Lifted}
use Rattle.graph.specs.declared.graph.Graph.{Graph as Counts}
use Rattle.graph.specs.Cells.{rows_end}
use Rattle.term_readback.specs.declared.table.Table.{Table}
use Rattle.term_readback.specs.Words.{values_at, patterns_at, numbers_at, table_in, marks_in, Holding}
use Rattle.term_lift.specs.Kept.{number_fits}
use Rattle.term_readback.specs.Moved.{table-set, table_long, framed_then}
use Rattle.term_readback.specs.Roots.{Open, Any, Opening, reads_as, Given, Gives, Notes}
use Rattle.term_readback.specs.Given.{unread_word, node-given, node_few, lies_set, framed_set}

-- another variable that has a number with one behind the others has one without it
number_fewer : (r x : ℕ) (xs : List ℕ) (i k : ℕ) → (r ≡ x → ⊥) → number_of r (xs ++ (x ∷ [])) i ≡ some k → (j : ℕ) × (number_of r xs i ≡ some j)
unfolding number_of
number_fewer r x [] i k d e = let z : none ≡ some k = rw (ne_eqb x r (λ q. d (sym q)), number_of) at e in never (cc)
number_fewer r x (y ∷ xs) i k d e = elim (see (eqb y r)) [
  | is true q ↦ (i, rw (q, number_of))
  | is false q ↦ let z = number_fewer r x xs (suc i) k d (rw (q, number_of) at e) in (z.0, rw (q, number_of) z.1)
]

-- one word more says something
marked_more : (xs : List ℕ) (i v : ℕ) → i < length xs → get_or xs i 0 ≡ 0 → taken (set xs i (suc v)) ≡ suc (taken xs)
unfolding taken
marked_more [] i v l e = absurd (omega arith)
marked_more (zero ∷ xs) zero v l e = refl
marked_more (suc y ∷ xs) zero v l e = absurd (omega (arith, e))
marked_more (zero ∷ xs) (suc i) v l e = marked_more xs i v (omega arith) e
marked_more (suc y ∷ xs) (suc i) v l e = ap suc (marked_more xs i v (omega arith) e)

-- a number is had before or is the root's own
numbered-before : (P : Pack) (h : Graph) (vs : List Bound) (everyone : Bool) (x : ℕ) (s : Resolving) (r k : ℕ) → (r ≡ x → ⊥) → number_of r (reads_as P h vs everyone x s).state.numbering 0 ≡ some k
    → (j : ℕ) × (number_of r s.state.numbering 0 ≡ some j)
unfolding resolve_at resolve_variable
numbered-before P h vs everyone x s r k d e = elim (see (is_var (vertex h x))) [
  | is false v ↦ (k, rw (v, resolve_at) at e)
  | is true v ↦ elim (see (number_of x s.state.numbering 0)) [
    | is (some j) q ↦ (k, rw (v, resolve_at, q, resolve_variable) at e)
    | is none q ↦ elim (see (everyone || (vertex h x).flex)) [
      | is true f ↦ number_fewer r x s.state.numbering 0 k d (rw (v, resolve_at, q, resolve_variable, f) at e)
      | is false f ↦ (k, rw (v, resolve_at, q, resolve_variable, f) at e)
    ]
  ]
]

module _ (bytes work words cells : List ℕ) (c : Catalog) (l : Lifted) (t : Table) (st : Store) (g : Counts) (n : ℕ) (everyone : Bool) (x : ℕ) where
  module _ (P : Pack) (h : Graph) (vs : List Bound) (s : Resolving) (H : Holding bytes work words cells c l t st g n everyone P h vs s) (O : Open h s x)
      (work' words' : List ℕ) (st' : Store) (n' p : ℕ) (G : Given bytes work work' words' cells c l t st' g n n' p P h vs (reads_as P h vs everyone x s)) where
    -- the words with the pattern's
    abbrev last : List ℕ
    last = set work' (t.at + (patterns_at cells + x)) (p + 1)

    -- the root is one of the nodes
    inside : (x < g.nodes) × (g.nodes ≤ length cells)
    inside = (node-given bytes work words cells c l t st g n everyone x P h vs s H O, node_few bytes work words cells c l t st g n everyone x P h vs s H O)

    -- the table with it
    last-table : table_in t last ≡ set (table_in t work') (patterns_at cells + x) (p + 1)
    last-table = table-set t work' (patterns_at cells + x) (p + 1) (omega (arith, inside.0, inside.1, H.lies.room))

    -- the table is as long as it was
    long : length (table_in t work) ≡ t.end - t.at
    long = table_long t work (omega (arith, H.lies.room)) H.lies.fits

    -- the patterns' words were as they were
    marks-before : marks_in cells (table_in t work') g ≡ marks_in cells (table_in t work) g
    marks-before = part_same (patterns_at cells) g.nodes (table_in t work') (table_in t work) (omega (arith, inside.1, H.lies.room, table_long t work' (omega (arith, H.lies.room)) G.lies.fits)) (omega (arith, inside.1, H.lies.room, long))
        (λ i a. G.kept (patterns_at cells + i) (omega arith) (omega (arith, inside.1)))

    -- they have one more
    marks-last : marks_in cells (table_in t last) g ≡ set (marks_in cells (table_in t work) g) x (p + 1)
    marks-last = ap (λ (u : List ℕ). marks_in cells u g) last-table ∙ part-set (patterns_at cells) g.nodes (table_in t work') x (p + 1) inside.0 ∙ ap (λ (u : List ℕ). set u x (p + 1)) marks-before

    -- as many as nodes
    marks_long : length (marks_in cells (table_in t work) g) ≡ g.nodes
    marks_long = length_part (patterns_at cells) g.nodes (table_in t work) (omega (arith, inside.1, H.lies.room, long))

    -- the words say the state with the root read back
    pub noted : Holding bytes last words' cells c l t st' g n' everyone P h vs (read_root P h vs everyone x s)
    unfolding read_root
    noted = record {
      lies = lies_set bytes work' words' cells c l t st' g n' everyone x P h vs G.lies (patterns_at cells + x) (p + 1) (omega arith) (omega (arith, inside.0, inside.1));
      says = record {
        store = G.store;
        numbering = G.numbering ∙ sym (ap (part (numbers_at cells) n') last-table ∙ part-set-before (numbers_at cells) n' (table_in t work') (patterns_at cells + x) (p + 1) (omega (arith, inside.0, inside.1)));
        memo = λ r.
            let o = reads_as P h vs everyone x s in
            elim (ℕ_discrete r x) [
              | yes e ↦
                  ap (λ (y : ℕ). word_of (value_of y (read_root P h vs everyone x s).memo)) e
                  ∙ ap word_of (value_of_new x o.pattern s.memo)
                  ∙ ap suc G.pattern
                  ∙ sym (ap₂ (λ (u : List ℕ) (y : ℕ). get_or u y 0) marks-last e ∙ get_or-set_same (marks_in cells (table_in t work) g) x (p + 1) 0 (omega (arith, marks_long, inside.0)) ∙ add-one p)
              | no d ↦
                  ap word_of (value_of_old x o.pattern s.memo r d)
                  ∙ H.says.memo r
                  ∙ sym (ap (λ (u : List ℕ). get_or u r 0) marks-last ∙ get_or-set_other (marks_in cells (table_in t work) g) x r (p + 1) 0 d)
            ];
        known = λ r k e. elim (ℕ_discrete r x) [
          | yes q ↦ ap (is_read_whole (read_root P h vs everyone x s)) q ∙ read_made P h vs everyone x s
          | no d ↦ let z = numbered-before P h vs everyone x s r k d e in read_others P h vs everyone x r s (λ q. d (sym q)) ∙ H.says.known r z.0 z.1
        ];
        most =
            let m : taken (marks_in cells (table_in t last) g) ≡ suc (taken (marks_in cells (table_in t work) g)) =
            ap taken (marks-last ∙ ap (set (marks_in cells (table_in t work) g) x) (add-one p)) ∙ marked_more (marks_in cells (table_in t work) g) x p (omega (arith, marks_long, inside.0)) (unread_word cells (table_in t work) words g st n s H.says x O.unread) in
            omega (arith, G.count, H.says.most);
      };
      right = right-root P h vs everyone x s O.ripe H.right;
      grounded = H.grounded;
    }

    -- the stack is as it was
    pub noted_stack : (i : ℕ) → rows_end cells ≤ i → i < values_at cells → get_or (table_in t last) i 0 ≡ get_or (table_in t work) i 0
    noted_stack i a b = ap (λ (u : List ℕ). get_or u i 0) last-table ∙ get_or-set_other (table_in t work') (patterns_at cells + x) i (p + 1) 0 (λ e. omega (arith, e)) ∙ G.kept i a (omega arith)

  module _ (K : Opening bytes work words cells c l t st g n everyone x Any) (work' words' : List ℕ) where
    -- there is no room
    pub notes_short : Gives bytes work words work' words' cells c l t st g n everyone x Any None → Notes bytes work words work' words' cells c l t st g n everyone x None
    unfolding read_root
    notes_short G = (G.0, λ P h vs s H O. G.1 P h vs s H O tt)

    module _ (p : Pattern) (st' : Store) (n' : ℕ) (G : Gives bytes work words work' words' cells c l t st g n everyone x Any (Some (p, st', n'))) where
      -- what is known of it
      given : Given bytes work work' words' cells c l t st' g n n' p.0 K.pack K.graph K.values (reads_as K.pack K.graph K.values everyone x K.state)
      given = G.2 K.pack K.graph K.values K.state K.holding K.opened tt

      -- the pattern and one is a word
      pub notes_small : p.0 + 1 < 4294967296
      notes_small = number_fits (index_in work' l) words' st' p.0 given.lies.lifts.laid.index given.within

      -- it is put down
      pub notes_read : Notes bytes work words (set work' (t.at + (patterns_at cells + x)) (p.0 + 1)) words' cells c l t st g n everyone x (Some (p, st', n'))
      notes_read =
          let i = inside K.pack K.graph K.values K.state K.holding K.opened work' words' st' n' p.0 given in (
            framed_then cells work work' (set work' (t.at + (patterns_at cells + x)) (p.0 + 1)) l t G.0 (framed_set bytes work' words' cells c l t st' g n' everyone x K.pack K.graph K.values given.lies (patterns_at cells + x) (p.0 + 1) (omega (arith, i.0, i.1))),
            G.1,
            λ P h vs s H O.
                let D = G.2 P h vs s H O tt in
                (noted P h vs s H O work' words' st' n' p.0 D, noted_stack P h vs s H O work' words' st' n' p.0 D),
          )
