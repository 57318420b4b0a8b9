-- One node more: the words behind the others stand for it.
use Rattle.std.specs.Prelude.{Option, Some, None}
use Rattle.std.specs.Prelude.{◌≡◌, List, [], ◌∷◌, ◌++◌, length, get_or, set}
use Rattle.std.proofs.Math.Path.{refl, sym, ap, ap₂, subst}
use Rattle.std.proofs.Common.{◌∙◌, length-set, get_or-set_same, get_or-set_other}
use Rattle.std.proofs.Math.Option.{none}
use Prim.Native.Nat.{ℕ, suc, ◌+◌, ◌*◌, ◌-◌, ◌≤◌, ◌<◌}
use native.Mathlib.Omega.{arith}
use Rattle.std.proofs.Math.Decide.{ℕ_discrete}
use Rattle.definition.specs.Store.{nothing, variable_head}
use Rattle.definition.specs.Graph.{Vertex, Graph, variable_vertex, applied, vertex, cells}
use Rattle.base.specs.declared.id.Node.{Node}
use Rattle.base.specs.Part.{part, put, part-set-before}
use Rattle.base.specs.Outside.{Outside}
use Rattle.base.specs.Lent.{back, back_outside}
use Rattle.theory.specs.Unification.Like.{Like, like_same, like_more, same-vertex}
use Rattle.graph.specs.declared.graph.Graph.{Graph as Counts}
use Rattle.graph.specs.Cells.{start_in, link_word, rest_at, sort_word, flex_word, rigid_word, mark_in, vertex_in, graph_in, length-graph_in, graph_kept, rows_end, Laid, Shows, cells_used, Unchanged, unchanged_then, unchanged_set}

-- ---- no node
pub shows_none : (words table : List ℕ) → 5 * length words + 5 ≤ length table → length words < nothing → start_in table 0 ≡ 0 → Shows words table (record { nodes = 0; used = 0 }) []
unfolding graph_in
shows_none words table wide small z = record {
  laid = record { wide = wide; first = z; rising = λ i h. absurd (omega arith); end = z; fits = omega arith; small = small };
  like = like_same [] (record { inside = λ x y h e. absurd (omega arith); rooted = λ x h. absurd (omega arith) });
}

-- ---- the words up to here are as they were
module _ (words table words' table' : List ℕ) (s : Counts) (L : Laid words table s) (long-words : length words' ≡ length words) (long-table : length table' ≡ length table)
    (fronts : (i : ℕ) → i ≤ 2 * s.nodes → get_or table' i 0 ≡ get_or table i 0) (rests : (i : ℕ) → i < 3 * s.nodes → get_or table' (rest_at words + i) 0 ≡ get_or table (rest_at words + i) 0)
    (filled : (i : ℕ) → i < s.used → get_or words' i 0 ≡ get_or words i 0) where
  -- a node more, which takes the cells up to `end`
  module _ (end : ℕ) (next : start_in table' (suc s.nodes) ≡ end) (more : s.used + 1 ≤ end) (fits : end ≤ length words) where
    abbrev grown : Counts
    grown = record { nodes = s.nodes + 1; used = end }

    starts : start_in table' s.nodes ≡ s.used
    starts = fronts (2 * s.nodes) (omega arith) ∙ L.end

    pub laid_more : Laid words' table' grown
    laid_more = record {
      wide = omega (arith, L.wide, long-words, long-table);
      first = fronts 0 (omega arith) ∙ L.first;
      rising = λ i h. elim (ℕ_discrete i s.nodes) [
        | yes e ↦ omega (arith, ap (start_in table') e, starts, next, more, ap (λ (k : ℕ). start_in table' (suc k)) e)
        | no d ↦ omega (arith, fronts (2 * i) (omega (arith, d)), fronts (2 * suc i) (omega (arith, d)), L.rising i (omega (arith, d)))
      ];
      end = let e : s.nodes + 1 ≡ suc s.nodes = omega arith in ap (start_in table') e ∙ next;
      fits = omega (arith, long-words);
      small = omega (arith, L.small, long-words);
    }

    pub shows_more : (g : Graph) → Shows words table s g → (v : Vertex) → v.link ≡ none → vertex_in words' table' s.nodes ≡ v → Shows words' table' grown (g ++ (v ∷ []))
    unfolding graph_in
    shows_more g S v bare e = record {
      laid = laid_more;
      like =
          let q : s.nodes + 1 ≡ suc s.nodes = omega arith in
          let c : graph_in words' table' (s.nodes + 1) ≡ graph_in words table s.nodes ++ (v ∷ []) = ap (graph_in words' table') q ∙ ap₂ (λ (h : Graph) (w : Vertex). h ++ (w ∷ [])) (graph_kept words table words' table' s L long-words fronts rests filled s.nodes (omega arith)) e in
          subst (λ (h : Graph). Like h (g ++ (v ∷ []))) (sym c) (like_more (graph_in words table s.nodes) g S.like v v bare bare (same-vertex v));
    }

-- ---- how many cells a graph takes
like_cells : (c g : Graph) → length c ≡ length g → ((x : ℕ) → x < length g → length (vertex c x).args ≡ length (vertex g x).args) → cells c ≡ cells g
unfolding cells vertex
like_cells [] [] e h = refl
like_cells [] (w ∷ g) e h = absurd (omega arith)
like_cells (v ∷ c) [] e h = absurd (omega arith)
like_cells (v ∷ c) (w ∷ g) e h = let i = like_cells c g (omega arith) (λ x l. h (suc x) (omega arith)) in omega (arith, h 0 (omega arith))

pub cells_shown : (words table : List ℕ) (s : Counts) (g : Graph) → Shows words table s g → cells g ≡ s.used
cells_shown words table s g S =
    sym (like_cells (graph_in words table s.nodes) g S.like.long (λ x l. ap length (S.like.nodes x l).args)) ∙ cells_used words table s S.laid s.nodes (omega arith) ∙ S.laid.end

-- ---- the words of the next node, and where the one behind it starts
pub record Rows (words table table' : List ℕ) (s : Counts) (sort flex rigid end : ℕ) : Type 0 where
  pub long : length table' ≡ length table
  pub fronts : (i : ℕ) → i ≤ 2 * s.nodes → get_or table' i 0 ≡ get_or table i 0
  pub rests : (i : ℕ) → i < 3 * s.nodes → get_or table' (rest_at words + i) 0 ≡ get_or table (rest_at words + i) 0
  pub link : link_word table' s.nodes ≡ 0
  pub sorted : sort_word words table' s.nodes ≡ sort
  pub flexed : flex_word words table' s.nodes ≡ flex
  pub fixed : rigid_word words table' s.nodes ≡ rigid
  pub next : start_in table' (suc s.nodes) ≡ end
  pub behind : Unchanged (rows_end words) table table'

-- two words written in front, and three behind
module _ (words table : List ℕ) (s : Counts) (sort flex rigid end : ℕ) (more : s.nodes < length words) (wide : rows_end words ≤ length table) where
  abbrev a : ℕ
  a = 2 * s.nodes

  abbrev b : ℕ
  b = 2 * length words + 2 + 3 * s.nodes

  abbrev t1 : List ℕ
  t1 = set table (a + 1) 0

  abbrev t2 : List ℕ
  t2 = set t1 (a + 2) end

  abbrev t3 : List ℕ
  t3 = set t2 b sort

  abbrev t4 : List ℕ
  t4 = set t3 (b + 1) flex

  abbrev t5 : List ℕ
  t5 = set t4 (b + 2) rigid

  long2 : length t2 ≡ length table
  long2 = length-set t1 (a + 2) end ∙ length-set table (a + 1) 0

  long3 : length t3 ≡ length table
  long3 = length-set t2 b sort ∙ long2

  long4 : length t4 ≡ length table
  long4 = length-set t3 (b + 1) flex ∙ long3

  -- what is written behind leaves other words
  before-rest : (i : ℕ) → i < b → get_or t5 i 0 ≡ get_or t2 i 0
  before-rest i h = get_or-set_other t4 (b + 2) i rigid 0 (λ e. omega (arith, e)) ∙ get_or-set_other t3 (b + 1) i flex 0 (λ e. omega (arith, e)) ∙ get_or-set_other t2 b i sort 0 (λ e. omega (arith, e))

  -- what is written in front, too
  beside_front : (i : ℕ) → (i ≡ a + 1 → ⊥) → (i ≡ a + 2 → ⊥) → get_or t2 i 0 ≡ get_or table i 0
  beside_front i c d = get_or-set_other t1 (a + 2) i end 0 d ∙ get_or-set_other table (a + 1) i 0 0 c

  pub rows_written : Rows words table t5 s sort flex rigid end
  rows_written =
      let flexed-at : rest_at words + (3 * s.nodes + 1) ≡ b + 1 = omega arith in
      let rigid-at : rest_at words + (3 * s.nodes + 2) ≡ b + 2 = omega arith in
      let next-at : 2 * suc s.nodes ≡ a + 2 = omega arith in
      let f : ℕ = rows_end words in
      record {
        long = length-set t4 (b + 2) rigid ∙ long4;
        fronts = λ i l. before-rest i (omega arith) ∙ beside_front i (λ e. omega (arith, e)) (λ e. omega (arith, e));
        rests = λ i l. before-rest (rest_at words + i) (omega arith) ∙ beside_front (rest_at words + i) (λ e. omega (arith, e, more)) (λ e. omega (arith, e, more));
        link = before-rest (a + 1) (omega (arith, more)) ∙ get_or-set_other t1 (a + 2) (a + 1) end 0 (λ e. omega (arith, e)) ∙ get_or-set_same table (a + 1) 0 0 (omega (arith, more, wide));
        sorted = get_or-set_other t4 (b + 2) b rigid 0 (λ e. omega (arith, e)) ∙ get_or-set_other t3 (b + 1) b flex 0 (λ e. omega (arith, e)) ∙ get_or-set_same t2 b sort 0 (omega (arith, more, wide, long2));
        flexed = ap (λ (i : ℕ). get_or t5 i 0) flexed-at ∙ get_or-set_other t4 (b + 2) (b + 1) rigid 0 (λ e. omega (arith, e)) ∙ get_or-set_same t3 (b + 1) flex 0 (omega (arith, more, wide, long3));
        fixed = ap (λ (i : ℕ). get_or t5 i 0) rigid-at ∙ get_or-set_same t4 (b + 2) rigid 0 (omega (arith, more, wide, long4));
        next = ap (λ (i : ℕ). get_or t5 i 0) next-at ∙ before-rest (a + 2) (omega (arith, more)) ∙ get_or-set_same t1 (a + 2) end 0 (omega (arith, more, wide, length-set table (a + 1) 0));
        behind =
            unchanged_then f table t4 t5
            (unchanged_then f table t3 t4
            (unchanged_then f table t2 t3 (unchanged_then f table t1 t2 (unchanged_set f table (a + 1) 0 (omega (arith, more))) (unchanged_set f t1 (a + 2) end (omega (arith, more)))) (unchanged_set f t2 b sort (omega (arith, more))))
            (unchanged_set f t3 (b + 1) flex (omega (arith, more))))
            (unchanged_set f t4 (b + 2) rigid (omega (arith, more)));
      }

-- the next node, and the graph with it, whose cells end at `end`
abbrev pub Next : Counts → ℕ → Node × Counts → Type 0
Next s end (n, s') = (n.0 ≡ s.nodes) × (s' ≡ record { nodes = s.nodes + 1; used = end })

-- what a node more answers: its number and the graph with it, or that the cells have no room for it; behind the rows nothing changes
abbrev pub Pushes : List ℕ → List ℕ → List ℕ → List ℕ → Counts → Vertex → Option (Node × Counts) → Type 0
Pushes words words' table table' s v (Some (n, s')) = ((g : Graph) → Shows words table s g → (n.0 ≡ length g) × Shows words' table' s' (g ++ (v ∷ []))) × Unchanged (rows_end words) table table'
Pushes words words' table table' s v None = (g : Graph) → Shows words table s g → length words < cells g + suc (length v.args)

-- it is the answer if it is with its number alone
pub pushed_next : (words words' table table' : List ℕ) (s : Counts) (v : Vertex) (end : ℕ) (r : Node × Counts) → Next s end r → ((n : Node) → n.0 ≡ s.nodes → Pushes words words' table table' s v (Some (n, (record { nodes = s.nodes + 1; used = end })))) → Pushes words words' table table' s v (Some r)
pushed_next words words' table table' s v end (n, s') N P = subst (λ (k : Counts). Pushes words words' table table' s v (Some (n, k))) (sym N.1) (P n N.0)

-- no room
pub no_room : (words words' table table' : List ℕ) (s : Counts) (v : Vertex) → length words < s.used + suc (length v.args) → Pushes words words' table table' s v None
no_room words words' table table' s v h g S = omega (arith, h, cells_shown words table s g S)

-- the node stands there
module _ (words table words' table' : List ℕ) (s : Counts) (L : Laid words table s) (long : length words' ≡ length words) (filled : (i : ℕ) → i < s.used → get_or words' i 0 ≡ get_or words i 0) (sort flex rigid end : ℕ) (R : Rows words' table table' s sort flex rigid end) (more : s.used + 1 ≤ end) (fits : end ≤ length words) where
  starts_there : start_in table' s.nodes ≡ s.used
  starts_there = R.fronts (2 * s.nodes) (omega arith) ∙ L.end

  -- there are as many cells as before
  rests_there : (i : ℕ) → i < 3 * s.nodes → get_or table' (rest_at words + i) 0 ≡ get_or table (rest_at words + i) 0
  rests_there i l = ap (λ (k : ℕ). get_or table' (2 * k + 2 + i) 0) (sym long) ∙ R.rests i l ∙ ap (λ (k : ℕ). get_or table (2 * k + 2 + i) 0) long

  pub node-more : (n : Node) → n.0 ≡ s.nodes → (head : ℕ) (args : List ℕ) → get_or words' s.used 0 ≡ head → part (s.used + 1) (end - (s.used + 1)) words' ≡ args
      → Pushes words words' table table' s (record { head = head; args = args; link = none; sort = sort; flex = mark_in flex; rigid = mark_in rigid }) (Some (n, (record { nodes = s.nodes + 1; used = end })))
  unfolding vertex_in
  node-more n n-is head args h a =
      let v : Vertex = record { head = head; args = args; link = none; sort = sort; flex = mark_in flex; rigid = mark_in rigid } in
      let e : vertex_in words' table' s.nodes ≡ v = rw (starts_there, R.next, R.link, R.sorted, R.flexed, R.fixed, h, a) in (
        λ g S. (n-is ∙ sym (length-graph_in words table s.nodes) ∙ S.like.long, shows_more words table words' table' s L long R.long R.fronts rests_there filled end R.next more fits g S v refl e),
        subst (λ (k : ℕ). Unchanged (5 * k + 5) table table') long R.behind,
      )

-- a variable takes one cell
pub var_pushed : (words table table' : List ℕ) (s : Counts) (n : Node) → n.0 ≡ s.nodes → Laid words table s → s.used < length words → (sort flex rigid : ℕ) → Rows (set words s.used variable_head) table table' s sort flex rigid (s.used + 1)
    → Pushes words (set words s.used variable_head) table table' s (variable_vertex sort (mark_in flex) (mark_in rigid)) (Some (n, (record { nodes = s.nodes + 1; used = s.used + 1 })))
unfolding part
var_pushed words table table' s n n-is L h sort flex rigid R =
    let z : s.used + 1 - (s.used + 1) ≡ 0 = omega arith in
    node-more words table (set words s.used variable_head) table' s L (length-set words s.used variable_head) (λ i l. get_or-set_other words s.used i variable_head 0 (λ e. omega arith)) sort flex rigid (s.used + 1) R (omega arith) (omega arith) n n-is variable_head []
    (get_or-set_same words s.used variable_head 0 h) (rw z)

-- an application takes a cell for its head and one for each argument, which stand there up to `end`
abbrev pub arguments_to : List ℕ → Counts → ℕ → List ℕ
arguments_to words s end = part (s.used + 1) (end - (s.used + 1)) words

pub laid_pushed : (words table table' : List ℕ) (s : Counts) (n : Node) → n.0 ≡ s.nodes → (head end : ℕ) → Laid words table s → s.used + 1 ≤ end → end ≤ length words → Rows (set words s.used head) table table' s nothing 0 0 end
    → Pushes words (set words s.used head) table table' s (applied head (arguments_to words s end)) (Some (n, (record { nodes = s.nodes + 1; used = end })))
laid_pushed words table table' s n n-is head end L more h R =
    node-more words table (set words s.used head) table' s L (length-set words s.used head) (λ i l. get_or-set_other words s.used i head 0 (λ e. omega arith)) nothing 0 0 end R more h n n-is head (arguments_to words s end)
    (get_or-set_same words s.used head 0 (omega arith)) (part-set-before (s.used + 1) (end - (s.used + 1)) words s.used head (omega arith))

-- ---- arguments were written there
module _ (words table copied : List ℕ) (s : Counts) (end : ℕ) (L : Laid words table s) (more : s.used + 1 ≤ end) (fits : end ≤ length words) (long : length copied ≡ length (arguments_to words s end)) where
  abbrev filled : List ℕ
  filled = put (s.used + 1) (end - (s.used + 1)) copied words

  free : Outside (s.used + 1) end words filled
  free = back_outside (s.used + 1) end words copied more fits long

  pub filled_long : length filled ≡ length words
  filled_long = free.long

  -- the nodes stand as they did
  pub filled_laid : Laid filled table s
  filled_laid = record {
    wide = omega (arith, L.wide, filled_long);
    first = L.first;
    rising = L.rising;
    end = L.end;
    fits = omega (arith, L.fits, filled_long);
    small = omega (arith, L.small, filled_long);
  }

  filled_shows : (g : Graph) → Shows words table s g → Shows filled table s g
  filled_shows g S =
      let e = graph_kept words table filled table s L filled_long (λ i h. refl) (λ i h. refl) (λ i h. free.ahead i (omega arith)) s.nodes (omega arith) in
      record { laid = filled_laid; like = subst (λ (h : Graph). Like h g) (sym e) S.like }

  filled_more : (words' table' : List ℕ) (v : Vertex) (r : Option (Node × Counts)) → Pushes filled words' table table' s v r → Pushes words words' table table' s v r
  filled_more words' table' v (Some (n, s')) P = (λ g S. P.0 g (filled_shows g S), subst (λ (k : ℕ). Unchanged (5 * k + 5) table table') filled_long P.1)
  filled_more words' table' v None P = λ g S. omega (arith, filled_long, P g (filled_shows g S))

  -- a node more over them
  pub filled-pushed : (words' table' args : List ℕ) (head : ℕ) → copied ≡ args → (r : Option (Node × Counts)) → Pushes filled words' table table' s (applied head (arguments_to filled s end)) r → Pushes words words' table table' s (applied head args) r
  filled-pushed words' table' args head same r P =
      let e : arguments_to filled s end ≡ args = back (s.used + 1) end words copied more fits long ∙ same in
      filled_more words' table' (applied head args) r (subst (λ (xs : List ℕ). Pushes filled words' table table' s (applied head xs) r) e P)
