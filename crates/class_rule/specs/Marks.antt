-- The marks of the numbered variables, and a row with them.
use Rattle.std.specs.Prelude.{◌≡◌, refl, Bool, true, false, List, [], ◌∷◌, map, ℕ, zero, suc, ◌+◌, ◌*◌, ◌-◌, ◌≤◌, ◌<◌, length, get_or, set, take}
use Rattle.std.proofs.Common.{sym, ap, ap₂, ◌∙◌, subst, arith, take_all, get_or-set_same, get_or-set_other}
use Rattle.std.proofs.Math.Decide.{dec_lt}
use Rattle.std.proofs.lemmas.List.{length-map}
use Rattle.definition.specs.Test.{is, see}
use Rattle.definition.specs.Good.{Below}
use Rattle.definition.proofs.Laws.Grow.{below_at}
use Rattle.definition.specs.Graph.{Graph, vertex}
use Rattle.definition.specs.Classes.{Class, count_of, mark}
use Rattle.base.specs.Part.{part, part_at, length_part}
use Rattle.base.specs.Outside.{Outside, outside_none, outside_then, outside_set, part-behind}
use Rattle.graph.specs.declared.graph.Graph.{Graph as Counts}
use Rattle.graph.specs.Cells.{Shows}
use Rattle.class_keys.specs.ClassWords.{count_in}
use Rattle.class_keys.specs.declared.classes.Keying.{Keying}
use Rattle.class_premises.specs.Layout.{table_in}
use Rattle.class_premises.specs.declared.layout.Layout.{Layout}
use Rattle.class_premises.specs.declared.building.Building.{Building}
use Rattle.term_readback.specs.Words.{numbers_at, table_end}
use Rattle.class_premises.specs.Row.{Beginning, Begun, Row, row-marked}
use Rattle.class_rule.specs.Flex.{FlexAsked, MarkOf}

-- the graph h stands in the table, and of its nodes xs are numbered, so many
pub record Numbered (work cells : List ℕ) (l : Layout) (g : Counts) (n : ℕ) (h : Graph) (xs : List ℕ) : Type 0 where
  pub shows : Shows cells (table_in work l) g h
  pub room : l.graph + table_end cells ≤ l.end
  pub fits : l.end ≤ length work
  pub few : n ≤ length cells
  pub numbers : part (l.graph + numbers_at cells) n work ≡ xs
  pub inside : Below g.nodes xs

-- what is asked: there are such, and there is room for their marks
pub record Marking (work class cells : List ℕ) (l : Layout) (g : Counts) (at n : ℕ) : Type 0 where
  pub graph : Graph
  pub nodes : List ℕ
  pub numbered : Numbered work cells l g n graph nodes
  pub room : at + n ≤ length class

-- how many of the first j are flexible
abbrev flexes_of : Graph → List ℕ → ℕ → ℕ
flexes_of h xs j = count_of (λ f. f) (take j (map (λ x. (vertex h x).flex) xs))

-- the first j of n words from `at` on are the marks of the first j of them, of which so many are flexible
pub record Marked (work class class' cells : List ℕ) (l : Layout) (g : Counts) (at n j flex : ℕ) : Type 0 where
  pub few : j ≤ n
  pub outside : Outside at (at + n) class class'
  pub marks : (h : Graph) (xs : List ℕ) → Numbered work cells l g n h xs → (i : ℕ) → i < j → get_or class' (at + i) 0 ≡ mark (vertex h (get_or xs i 0)).flex
  pub some : flex ≤ j
  pub counted : (h : Graph) (xs : List ℕ) → Numbered work cells l g n h xs → flex ≡ count_of (λ f. f) (take j (map (λ x. (vertex h x).flex) xs))

-- none is
pub marked-none : (work class cells : List ℕ) (l : Layout) (g : Counts) (at n : ℕ) → Marked work class class cells l g at n 0 0
unfolding count_of
marked-none work class cells l g at n = record {
  few = omega arith;
  outside = outside_none at (at + n) class;
  marks = λ h xs N i p. absurd (omega arith);
  some = omega arith;
  counted = λ h xs N. refl;
}

-- all are
pub marked_all : (work class class' cells : List ℕ) (l : Layout) (g : Counts) (at n j flex : ℕ) → n ≤ j → Marked work class class' cells l g at n j flex → Marked work class class' cells l g at n n flex
marked_all work class class' cells l g at n j flex h M = subst (λ (i : ℕ). Marked work class class' cells l g at n i flex) (omega (arith, h, M.few)) M

-- a mark is 0 or 1
pub mark_small : (f : Bool) → mark f ≤ 1
unfolding mark
mark_small true = omega arith
mark_small false = omega arith

-- all numbered variables are read
numbered_long : (work cells : List ℕ) (l : Layout) (g : Counts) (n : ℕ) (h : Graph) (xs : List ℕ) → Numbered work cells l g n h xs → length xs ≡ n
numbered_long work cells l g n h xs N = sym (ap length N.numbers) ∙ length_part (l.graph + numbers_at cells) n work (omega (arith, N.few, N.room, N.fits))

-- one flexible variable more, or not
flexes_more : (h : Graph) (xs : List ℕ) (j : ℕ) → j < length xs → flexes_of h xs (suc j) ≡ flexes_of h xs j + mark (vertex h (get_or xs j 0)).flex
unfolding count_of mark
flexes_more h [] j p = absurd (omega arith)
flexes_more h (x ∷ xs) zero p = elim (see (vertex h x).flex) [ is true q ↦ rw (q, count_of, mark) | is false q ↦ rw (q, count_of, mark) ]
flexes_more h (x ∷ xs) (suc j) p = elim (see (vertex h x).flex) [
  | is true q ↦ rw (q, count_of) (let e = flexes_more h xs j (omega arith) in omega arith)
  | is false q ↦ rw (q, count_of) (flexes_more h xs j (omega arith))
]

module _ (work class cells : List ℕ) (l : Layout) (g : Counts) (at n : ℕ) (K : Marking work class cells l g at n) (j : ℕ) (more : j < n) where
  -- the word of the next one stands there
  pub marking_there : l.graph + numbers_at cells + j < length work
  marking_there = omega (arith, K.numbered.few, K.numbered.room, K.numbered.fits)

  -- which node it is
  next_is : (h : Graph) (xs : List ℕ) → Numbered work cells l g n h xs → get_or work (l.graph + numbers_at cells + j) 0 ≡ get_or xs j 0
  next_is h xs N = sym (part_at (l.graph + numbers_at cells) n work j more) ∙ ap (λ (ys : List ℕ). get_or ys j 0) N.numbers

  -- its mark may be asked for
  pub marking_asked : FlexAsked work cells l g (get_or work (l.graph + numbers_at cells + j) 0)
  marking_asked =
      let N = K.numbered in
      let long = numbered_long work cells l g n K.graph K.nodes N in
      record {
        graph = K.graph;
        shows = N.shows;
        room = N.room;
        fits = N.fits;
        node = omega (arith, next_is K.graph K.nodes N, below_at g.nodes K.nodes j N.inside (omega (arith, long)));
      }

  -- it is small
  pub marking_small : (r : ℕ) → MarkOf work cells l g (get_or work (l.graph + numbers_at cells + j) 0) r → r ≤ 1
  marking_small r F = omega (arith, F K.graph K.numbered.shows, mark_small (vertex K.graph (get_or work (l.graph + numbers_at cells + j) 0)).flex)

  -- one more is written
  pub marked_more : (class' : List ℕ) (flex r : ℕ) → MarkOf work cells l g (get_or work (l.graph + numbers_at cells + j) 0) r → Marked work class class' cells l g at n j flex
      → Marked work class (set class' (at + j) r) cells l g at n (j + 1) (flex + r)
  marked_more class' flex r F M = record {
    few = omega arith;
    outside = outside_then at (at + n) class class' (set class' (at + j) r) M.outside (outside_set at (at + n) class' (at + j) r (omega arith) (omega arith));
    marks = λ h xs N i p. elim (dec_lt i j) [
      | yes m ↦ get_or-set_other class' (at + j) (at + i) r 0 (λ q. omega (arith, q, m)) ∙ M.marks h xs N i m
      | no m ↦
          let d : i ≡ j = omega (arith, m, p) in
          let e : at + i ≡ at + j = omega (arith, d) in
          ap (λ (k : ℕ). get_or (set class' (at + j) r) k 0) e ∙ get_or-set_same class' (at + j) r 0 (omega (arith, M.outside.long, K.room)) ∙ F h N.shows ∙ ap (λ (x : ℕ). mark (vertex h x).flex) (next_is h xs N)
          ∙ ap (λ (k : ℕ). mark (vertex h (get_or xs k 0)).flex) (sym d)
    ];
    some = omega (arith, M.some, marking_small r F);
    counted = λ h xs N.
        let e : j + 1 ≡ suc j = omega arith in
        ap₂ ◌+◌ (M.counted h xs N) (F h N.shows ∙ ap (λ (x : ℕ). mark (vertex h x).flex) (next_is h xs N))
        ∙ sym (ap (flexes_of h xs) e ∙ flexes_more h xs j (omega (arith, numbered_long work cells l g n h xs N)));
  }

-- ---- the row
-- there is room for the row, for its place ahead of the table, and a word for the class's steps
pub record Writing (work class cells : List ℕ) (k : Keying) (l : Layout) (g : Counts) (fill i n : ℕ) : Type 0 where
  pub counted : k.at + 2 * k.cap + i < length work
  pub place : l.rows + i < l.graph
  pub room : fill + 3 + n ≤ length class
  pub small : length class < 4294967296
  pub graph : Graph
  pub nodes : List ℕ
  pub numbered : Numbered work cells l g n graph nodes

-- the row is begun, and its marks are those of the numbered variables, of which so many are flexible
pub record Writes (work class work' class' cells : List ℕ) (k : Keying) (l : Layout) (g : Counts) (fill i conclusion n flex : ℕ) : Type 0 where
  pub between : List ℕ
  pub beginning : Beginning work class l fill i (count_in work k i) n
  pub begun : Begun work class work' between l fill i conclusion (count_in work k i) n
  pub outside : Outside (fill + 3) (fill + 3 + n) between class'
  pub marks : (h : Graph) (xs : List ℕ) → Numbered work cells l g n h xs → (j : ℕ) → j < n → get_or class' (fill + 3 + j) 0 ≡ mark (vertex h (get_or xs j 0)).flex
  pub some : flex ≤ n
  pub counted : (h : Graph) (xs : List ℕ) → Numbered work cells l g n h xs → flex ≡ count_of (λ f. f) (map (λ x. (vertex h x).flex) xs)

-- both of what is at hand
abbrev pub WritingIn : List ℕ → List ℕ → List ℕ → Building → Counts → ℕ → ℕ → Type 0
WritingIn work class cells s g i n = Writing work class cells s.keying s.layout g s.fill i n

abbrev pub WritesIn : List ℕ → List ℕ → List ℕ → List ℕ → List ℕ → Building → Counts → ℕ → ℕ → ℕ → ℕ → Type 0
WritesIn work class work' class' cells s g i conclusion n flex = Writes work class work' class' cells s.keying s.layout g s.fill i conclusion n flex

-- a mark of these
marks-at : (h : Graph) (xs : List ℕ) (j : ℕ) → j < length xs → get_or (map mark (map (λ x. (vertex h x).flex) xs)) j 0 ≡ mark (vertex h (get_or xs j 0)).flex
marks-at h [] j p = absurd (omega arith)
marks-at h (x ∷ xs) zero p = refl
marks-at h (x ∷ xs) (suc j) p = marks-at h xs j (omega arith)

-- it is the row of a class with these variables
pub writes_row : (work class work' class' cells : List ℕ) (k : Keying) (l : Layout) (g : Counts) (fill i conclusion n flex : ℕ) (x : Class) (h : Graph) (xs : List ℕ) → Writes work class work' class' cells k l g fill i conclusion n flex
    → Numbered work cells l g n h xs → conclusion ≡ x.conclusion → x.flex ≡ map (λ y. (vertex h y).flex) xs → n ≡ length xs → (count : ℕ) → count_in work k i ≡ count → Row class class' fill x count
writes_row work class work' class' cells k l g fill i conclusion n flex x h xs W N e f m count q =
    let flat : n ≡ length x.flex = m ∙ sym (ap length f ∙ length-map xs (λ y. (vertex h y).flex)) in
    let R : Row class class' fill x (count_in work k i) =
    row-marked work class work' W.between class' l fill i conclusion (count_in work k i) n x W.beginning W.begun e flat W.outside
    (λ j p. W.marks h xs N j p ∙ sym (ap (λ fl. get_or (map mark fl) j 0) f ∙ marks-at h xs j (omega (arith, m)))) in
    rw q at R

module _ (work class cells : List ℕ) (k : Keying) (l : Layout) (g : Counts) (fill i n : ℕ) (K : Writing work class cells k l g fill i n) (count : ℕ) (few : count < 4294967296) where
  -- the row may be begun
  pub writing_begins : Beginning work class l fill i count n
  writing_begins = record { place = omega (arith, K.place, K.numbered.room, K.numbered.fits); room = K.room; small = K.small; counted = few }

  module _ (work' class₁ : List ℕ) (conclusion : ℕ) (B : Begun work class work' class₁ l fill i conclusion count n) where
    -- the table is as it was
    numbered_on : (h : Graph) (xs : List ℕ) → Numbered work cells l g n h xs → Numbered work' cells l g n h xs
    numbered_on h xs N =
        let O = B.places in
        record {
          shows = subst (λ (t : List ℕ). Shows cells t g h) (sym (part-behind (l.rows + i) (l.rows + i + 1) work work' O l.graph (l.end - l.graph) (omega (arith, K.place)) (omega (arith, N.room, N.fits)))) N.shows;
          room = N.room;
          fits = omega (arith, N.fits, O.long);
          few = N.few;
          numbers = part-behind (l.rows + i) (l.rows + i + 1) work work' O (l.graph + numbers_at cells) n (omega (arith, K.place)) (omega (arith, N.few, N.room, N.fits)) ∙ N.numbers;
          inside = N.inside;
        }

    -- the marks are asked for
    pub writing_marks : Marking work' class₁ cells l g (fill + 3) n
    writing_marks = record { graph = K.graph; nodes = K.nodes; numbered = numbered_on K.graph K.nodes K.numbered; room = omega (arith, K.room, B.rows.long) }

    -- they are written
    pub writes : (class' : List ℕ) (flex : ℕ) → count ≡ count_in work k i → Marked work' class₁ class' cells l g (fill + 3) n n flex → Writes work class work' class' cells k l g fill i conclusion n flex
    writes class' flex e M = record {
      between = class₁;
      beginning = subst (λ (m : ℕ). Beginning work class l fill i m n) e writing_begins;
      begun = subst (λ (m : ℕ). Begun work class work' class₁ l fill i conclusion m n) e B;
      outside = M.outside;
      marks = λ h xs N j p. M.marks h xs (numbered_on h xs N) j p;
      some = M.some;
      counted = λ h xs N.
          let N' = numbered_on h xs N in
          M.counted h xs N'
          ∙ ap (count_of (λ f. f)) (take_all n (map (λ x. (vertex h x).flex) xs) (omega (arith, length-map xs (λ x. (vertex h x).flex), numbered_long work' cells l g n h xs N')));
    }
