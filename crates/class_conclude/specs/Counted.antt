-- What was read back, with the fixed variables counted: the numbered ones are nodes of the graph.
use Rattle.std.specs.Prelude.{Some, Result, Ok, Err}
use Rattle.std.specs.Prelude.{◌≡◌, refl, Bool, List, [], ◌∷◌, eqb, length}
use Rattle.std.proofs.Math.Path.{sym, ap}
use Rattle.std.proofs.Common.{◌∙◌, arith, eq-eqb}
use Rattle.std.proofs.Math.Bool.{true, false}
use Rattle.std.proofs.Math.Option.{none, some}
use Prim.Native.Nat.{ℕ, suc, ◌+◌, ◌≤◌, ◌<◌}
use Rattle.std.proofs.Math.Decide.{dec_lt}
use Rattle.std.proofs.Math.ListN.{get_or, get_or-eq_default}
use Rattle.definition.specs.Test.{or_right, is, see, never, any}
use Rattle.definition.specs.Pack.{Node, Pack}
use Rattle.definition.specs.Good.{Below}
use Rattle.definition.specs.Verdict.{Bound, value_of}
use Rattle.definition.specs.Store.{pattern_words}
use Rattle.definition.specs.Graph.{Graph, up_to}
use Rattle.definition.specs.Analysis.{Resolved, number_of}
use Rattle.definition.specs.Classes.{count_of, is_some, is_fixed}
use Rattle.theory.specs.Walks.Memo.{has}
use Rattle.theory.specs.Walks.Resolving.{Resolving, is_read_whole}
use Rattle.base.specs.Word.{word_of}
use Rattle.base.specs.Part.{part_at, part_is, length_part}
use Rattle.base.specs.declared.id.Pattern.{Pattern}
use Rattle.store.specs.Stored.{nodes, written}
use Rattle.store.specs.declared.nodes.Store.{Store}
use Rattle.pack_tables.specs.declared.catalog.Catalog.{Catalog}
use Rattle.graph.specs.declared.graph.Graph.{Graph as Counts}
use Rattle.class_premises.specs.Layout.{copies_at}
use Rattle.class_premises.specs.Joins.{copies_in}
use Rattle.class_premises.specs.declared.layout.Layout.{Layout}
use Rattle.term_readback.specs.Words.{patterns_at, numbers_at, table_end, table_in, marks_in, Framed}
use Rattle.term_readback.specs.Moved.{table_at, table_long, nodes-most, numbers-most, framed_then, framed_moves, holding_moves}
use Rattle.class_premises.specs.Standing.{lifted_of}
use Rattle.theory.specs.Making.Resolves.{resolve-length}
use Rattle.theory.specs.Making.Numbers.{number_any}
use Rattle.class_conclude.specs.FixedMarks.{numbers_in}
use Rattle.class_conclude.specs.FixedWhole.{Numbered as Marked, NumbersIn, CountsFixed}
use Rattle.class_conclude.specs.declared.conclude.Concluded.{Concluded}
use Rattle.definition.specs.declared.Refusal.{Refusal}
use Rattle.definition.specs.declared.Refusal.TheVariants.{Short}
use Rattle.class_conclude.specs.Entries.{table_of, Holds, read_flex, renamed}
use Rattle.class_conclude.specs.declared.top.Wanted.{Wanted}
use Rattle.class_conclude.specs.Top.{Topped, Topping}
use Rattle.class_conclude.specs.Back.{read_top, BackRead, BackReads}

-- ---- the numbered variables
-- all in a list are below n if each that is found in it is
below_found : (n : ℕ) (xs : List ℕ) → ((x : ℕ) → any (eqb x) xs ≡ true → x < n) → Below n xs
unfolding any
below_found n [] h = tt
below_found n (x ∷ xs) h =
    let e = eq-eqb x x refl in
    (h x (rw e), below_found n xs (λ y q. h y (or_right (eqb y x) (any (eqb y) xs) q)))

-- one without a number is not found
none_there : (x : ℕ) (xs : List ℕ) → number_of x xs 0 ≡ none → false ≡ any (eqb x) xs
unfolding is_some
none_there x xs o = sym (ap is_some o) ∙ number_any x xs 0

module _ (bytes work words cells : List ℕ) (c : Catalog) (l : Layout) (st : Store) (g : Counts) (n : ℕ) (everyone : Bool) (P : Pack) (h : Graph) (vs : List Bound) (s : Resolving) (H : Holds bytes work words cells c l st g n everyone P h vs s) where
  -- the table
  abbrev table : List ℕ
  table = table_in (table_of l) work

  -- no more nodes than cells
  nodes_here : g.nodes ≤ length cells
  nodes_here = nodes-most cells table g h vs H.lies.stands

  -- the table is long enough
  room : table_end cells ≤ length (table_in (table_of l) work)
  room = omega (arith, table_long (table_of l) work (omega (arith, H.lies.room)) H.lies.fits, H.lies.room)

  -- no more numbers than cells
  pub numbers_few : n ≤ length cells
  numbers_few = omega (arith, numbers-most cells table words g st n s room nodes_here H.says, nodes_here)

  -- a root that was read back is a node
  read_inside : (r : ℕ) → is_read_whole s r ≡ true → r < g.nodes
  unfolding is_read_whole has
  read_inside r e = elim (see (value_of r s.memo)) [
    | is none q ↦ never (let z : false ≡ true = rw (q, is_some) at e in cc)
    | is (some p) q ↦ elim (dec_lt r g.nodes) [
      | yes k ↦ k
      | no k ↦
          let m : get_or (marks_in cells table g) r 0 ≡ suc p = sym (H.says.memo r) ∙ ap word_of q in
          let d : get_or (marks_in cells table g) r 0 ≡ 0 = get_or-eq_default (marks_in cells table g) 0 (omega (arith, k, length_part (patterns_at cells) g.nodes table (omega (arith, room, nodes_here)))) in
          absurd (omega (arith, m, d))
    ]
  ]

  -- so each numbered variable is
  pub numbers_inside : Below g.nodes s.state.numbering
  numbers_inside = below_found g.nodes s.state.numbering (λ x q. elim (see (number_of x s.state.numbering 0)) [
    | is none o ↦ never (let z : false ≡ true = none_there x s.state.numbering o ∙ q in cc)
    | is (some k) o ↦ read_inside x (H.says.known x k o)
  ])

  -- they stand in the table
  pub numbers_are : s.state.numbering ≡ numbers_in work cells (table_of l) n
  numbers_are =
      H.says.numbering
      ∙ part_is (numbers_at cells) n table (numbers_in work cells (table_of l) n) (omega (arith, room, numbers_few)) (length_part (l.graph + numbers_at cells) n work (omega (arith, numbers_few, H.lies.room, H.lies.fits)))
      (λ i q.
      let e : l.graph + (numbers_at cells + i) ≡ l.graph + numbers_at cells + i = omega arith in
      table_at (table_of l) work (numbers_at cells + i) (omega (arith, numbers_few, H.lies.room)) ∙ ap (λ (j : ℕ). get_or work j 0) e ∙ sym (part_at (l.graph + numbers_at cells) n work i q))

  -- the fixed ones may be counted
  pub counting : Marked work cells (table_of l) g n h vs s.state.numbering
  counting = record { room = H.lies.room; fits = H.lies.fits; stands = H.lies.stands; few = numbers_few; numbering = numbers_are; inside = numbers_inside }

-- ---- what is answered
-- all that was read of a graph, behind a store's nodes
pub record TopRead (bytes work words cells : List ℕ) (c : Catalog) (l : Layout) (st : Store) (g : Counts) (r : Concluded) (P : Pack) (h : Graph) (vs : List Bound) (s : List Node) (x : ℕ) (xs : List ℕ) : Type 0 where
  pub state : Resolving
  pub holding : Holds bytes work words cells c l st g r.numbered false P h vs state
  pub is : (read_flex P h vs xs (read_top P h vs x s).state).state ≡ state.state
  pub conclusion : (read_top P h vs x s).patterns ≡ r.pattern.0 ∷ []
  pub entries : r.entries ≡ length (read_flex P h vs xs (read_top P h vs x s).state).patterns
  pub renamings : r.renamings ≡ count_of (renamed (read_flex P h vs xs (read_top P h vs x s).state).state.store) (read_flex P h vs xs (read_top P h vs x s).state).patterns
  pub fixed : r.fixed ≡ count_of (is_fixed h vs (read_flex P h vs xs (read_top P h vs x s).state).state.numbering) (up_to (length h))

-- what `read_top` answers
abbrev pub TopReads : List ℕ → List ℕ → List ℕ → List ℕ → List ℕ → List ℕ → Catalog → Layout → Store → ℕ → Counts → ℕ → ℕ → Result (Counts × Store × Concluded) Refusal → Type 0
TopReads bytes work words work' words' cells c l st before g x copies (Ok (g', st', r)) =
    Framed cells work work' (lifted_of l) (table_of l)
    × (words' ≡ written (nodes words' st') words)
    × (g' ≡ g)
    × ((P : Pack) (h : Graph) (vs : List Bound) → Topped bytes work words cells c l st before g x copies P h vs → TopRead bytes work' words' cells c l st' g r P h vs (nodes words st) x (copies_in work cells l copies))
TopReads bytes work words work' words' cells c l st before g x copies (Err z) =
    (z ≡ Short 2)
    × ((P : Pack) (h : Graph) (vs : List Bound) → Topped bytes work words cells c l st before g x copies P h vs
    → length words < length (pattern_words (read_flex P h vs (copies_in work cells l copies) (read_top P h vs x (nodes words st)).state).state.store))

-- of what is wanted
abbrev pub TopReadsAt : (bytes work words work' words' cells : List ℕ) (c : Catalog) (l : Layout) (st : Store) (g : Counts) (w : Wanted) → Result (Counts × Store × Concluded) Refusal → Type 0
TopReadsAt bytes work words work' words' cells c l st g w r = TopReads bytes work words work' words' cells c l st w.before g w.node.0 w.copies r

module _ (bytes work words cells : List ℕ) (c : Catalog) (l : Layout) (st : Store) (before : ℕ) (g : Counts) (x copies : ℕ) (K : Topping bytes work words cells c l st before g x copies) (work₁ words₁ : List ℕ) (p : Pattern) (st₁ : Store) (n k : ℕ)
    (B : BackReads bytes work words work₁ words₁ cells c l st before g x copies (Some (st₁, p, n, k))) where
  -- what is held
  held : (P : Pack) (h : Graph) (vs : List Bound) → Topped bytes work words cells c l st before g x copies P h vs → BackRead bytes work₁ words₁ cells c l st₁ g p.0 n k P h vs (nodes words st) x (copies_in work cells l copies)
  held P h vs T = B.2 P h vs T

  -- the fixed variables may be counted
  pub counted-asked : NumbersIn work₁ cells (table_of l) g n
  counted-asked =
      let b = held K.pack K.graph K.values K.topped in
      record { graph = K.graph; values = K.values; numbers = b.state.state.numbering; numbered = counting bytes work₁ words₁ cells c l st₁ g n false K.pack K.graph K.values b.state b.holding }

  -- they were
  pub counted : (work' : List ℕ) (f : ℕ) → CountsFixed work₁ work' cells (table_of l) g n f
      → TopReads bytes work words work' words₁ cells c l st before g x copies (Ok (g, st₁, record { pattern = p; numbered = n; entries = copies; renamings = k; fixed = f }))
  counted work' f F =
      let b₀ = held K.pack K.graph K.values K.topped in (
        framed_then cells work work₁ work' (lifted_of l) (table_of l) B.0 (framed_moves bytes work₁ words₁ cells c (lifted_of l) (table_of l) st₁ g work' F.0 K.pack K.graph K.values b₀.holding.lies),
        B.1,
        refl,
        λ P h vs T.
            let b = held P h vs T in
            record {
              state = b.state;
              holding = holding_moves bytes work₁ words₁ cells c (lifted_of l) (table_of l) st₁ g work' F.0 n false P h vs b.state b.holding;
              is = ap (λ (r : Resolved). r.state) b.is;
              conclusion = b.conclusion;
              entries =
                  sym (resolve-length (length h) P h vs false (copies_in work cells l copies) (read_top P h vs x (nodes words st)).state
                  ∙ length_part (l.graph + copies_at cells) copies work (omega (arith, T.copies_few, T.laid.table, T.laid.inside)));
              renamings = b.renamings ∙ ap (λ (r : Resolved). count_of (renamed r.state.store) r.patterns) (sym b.is);
              fixed = F.1 h vs b.state.state.numbering (counting bytes work₁ words₁ cells c l st₁ g n false P h vs b.state b.holding) ∙ ap (λ (r : Resolved). count_of (is_fixed h vs r.state.numbering) (up_to (length h))) (sym b.is);
            },
      )
