-- Nodes put behind a graph's own: the graph stays well sorted, and the new nodes have the sorts wanted.
use Rattle.std.specs.Prelude.{◌≡◌, refl, Bool, true, false, List, [], ◌∷◌, ◌++◌, map, ℕ, zero, suc, ◌+◌, ◌<◌, length, get_or}
use Rattle.std.proofs.Common.{sym, ap, ◌∙◌, append_assoc, append-nil, arith, eq-eqb, ne_eqb}
use Rattle.std.proofs.Math.Option.{none, some}
use Rattle.definition.specs.Test.{never}
use Rattle.definition.specs.Pack.{Pack, symbol_of}
use Rattle.definition.specs.Store.{variable_head}
use Rattle.definition.specs.Good.{Below, Few}
use Rattle.definition.proofs.Laws.Grow.{below_more}
use Rattle.definition.specs.Graph.{Vertex, Graph, variable_vertex, applied, vertex, Grown, push, is_var, up_to}
use Rattle.definition.specs.Analysis.{GrownAll}
use Rattle.theory.specs.Unification.Solve.{sort_at, SortsAt, Begins}
use Rattle.theory.specs.Unification.Circle.{length_up_to}
use Rattle.theory.specs.Copies.Begin.{begins_refl, begins_trans, sort_at_begins, SortsAt-begins}
use Rattle.theory.specs.Copies.Push.{push-length, push_begins, push-new, push_each, push-sort-variable, push-sort-applied}
use Rattle.theory.specs.Copies.Variables.{variables_of, up_to_at}
use Rattle.emit_theory.specs.Graphs.{SortedVertex, SortedGraph}
use Rattle.emit_theory.specs.Graph.Kept.{Standing}

-- a node of a well-sorted graph is well sorted in a graph that begins with it
pub sorted_begins : (P : Pack) (g h : Graph) → Begins g h → SortedGraph P g → (x : ℕ) → x < length g → SortedVertex P h x
sorted_begins P g h b S x l =
    let n = S x l in
    let same = b.kept x l in
    record {
      head = λ e. rw same (n.head (ap is_var (sym same) ∙ e));
      below = rw same (below_more (length g) (length h) (vertex g x).args b.longer n.below);
      sorts = λ e. rw same (SortsAt-begins P g h b (vertex g x).args (symbol_of P (vertex g x).head).inputs n.below (n.sorts (ap is_var (sym same) ∙ e)));
      linked = λ y e.
          let k = n.linked y (ap (λ (v : Vertex). v.link) (sym same) ∙ e) in
          (omega (arith, k.0, b.longer), sort_at_begins P g h b x l ∙ k.1 ∙ sym (sort_at_begins P g h b y k.0));
    }

-- what can stand behind a graph's nodes: joined to none, well sorted over them
pub record NewVertex (P : Pack) (g : Graph) (v : Vertex) : Type 0 where
  pub alone : v.link ≡ none
  pub head : is_var v ≡ false → v.head < length P.symbols
  pub below : Below (length g) v.args
  pub sorts : is_var v ≡ false → SortsAt P g v.args (symbol_of P v.head).inputs

-- with it the graph stays well sorted
pub push_sorted : (P : Pack) (g : Graph) (v : Vertex) → SortedGraph P g → NewVertex P g v → SortedGraph P (push g v).graph
push_sorted P g v S n =
    let h = (push g v).graph in
    let b = push_begins g v in
    let new : vertex h (length g) ≡ v = push-new g v in
    let a = n.alone in
    push_each (SortedVertex P h) g v (sorted_begins P g h b S) (record {
      head = λ e. rw new (n.head (ap is_var (sym new) ∙ e));
      below = rw new (below_more (length g) (length h) v.args b.longer n.below);
      sorts = λ e. rw new (SortsAt-begins P g h b v.args (symbol_of P v.head).inputs n.below (n.sorts (ap is_var (sym new) ∙ e)));
      linked = λ y e. never (let z : none ≡ some y = sym a ∙ ap (λ (v : Vertex). v.link) (sym new) ∙ e in cc);
    })

-- a node of a sort, and a well-sorted graph that begins with what was there
pub record Put (P : Pack) (so : ℕ) (g : Graph) (r : Grown) : Type 0 where
  pub begins : Begins g r.graph
  pub sorted : SortedGraph P r.graph
  pub inside : r.at < length r.graph
  pub sort : sort_at P r.graph r.at ≡ so

-- nodes of these sorts, and such a graph
pub record PutAll (P : Pack) (ss : List ℕ) (g : Graph) (r : GrownAll) : Type 0 where
  pub begins : Begins g r.graph
  pub sorted : SortedGraph P r.graph
  pub inside : Below (length r.graph) r.ats
  pub sorts : SortsAt P r.graph r.ats ss

-- a variable of any sort can stand behind the others, however it is marked
pub put-variable : (P : Pack) (g : Graph) (so : ℕ) (flex rigid : Bool) → SortedGraph P g → Put P so g (push g (variable_vertex so flex rigid))
unfolding push is_var
put-variable P g so flex rigid S =
    let v = variable_vertex so flex rigid in
    let e : is_var v ≡ true = eq-eqb variable_head variable_head refl in
    record {
      begins = push_begins g v;
      sorted = push_sorted P g v S (record { alone = refl; head = λ f. never (let z : true ≡ false = sym e ∙ f in cc); below = tt; sorts = λ f. never (let z : true ≡ false = sym e ∙ f in cc) });
      inside = omega (arith, push-length g v);
      sort = push-sort-variable P g v e;
    }

-- a symbol's number is not that of variables
pub symbol-applied : (P : Pack) → Few P → (h : ℕ) (args : List ℕ) → h < length P.symbols → is_var (applied h args) ≡ false
unfolding is_var
symbol-applied P few h args l = let f = few.symbols in ne_eqb h variable_head (λ e. omega arith)

-- an application can, over nodes of its head's input sorts
pub put-applied : (P : Pack) → Few P → (g : Graph) (h : ℕ) (args : List ℕ) → SortedGraph P g → h < length P.symbols → Below (length g) args → SortsAt P g args (symbol_of P h).inputs
    → Put P (symbol_of P h).output g (push g (applied h args))
unfolding push
put-applied P few g h args S l b s =
    let v = applied h args in
    let e = symbol-applied P few h args l in
    record {
      begins = push_begins g v;
      sorted = push_sorted P g v S (record { alone = refl; head = λ f. l; below = b; sorts = λ f. s });
      inside = omega (arith, push-length g v);
      sort = push-sort-applied P g v e;
    }

-- a graph with a variable more for each of these sorts
pub record Opened (P : Pack) (sorts : List ℕ) (g h : Graph) : Type 0 where
  pub begins : Begins g h
  pub sorted : SortedGraph P h
  pub at : (k : ℕ) → k < length sorts → (length g + k < length h) × (sort_at P h (length g + k) ≡ get_or sorts k 0)

-- variables put behind a graph's nodes
pub put_variables : (P : Pack) (g : Graph) (sorts : List ℕ) → SortedGraph P g → Opened P sorts g (g ++ variables_of sorts)
unfolding push
put_variables P g [] S = record { begins = rw (append-nil g) (begins_refl g); sorted = rw (append-nil g) S; at = λ k l. absurd (omega arith) }
put_variables P g (so ∷ sorts) S =
    let v = variable_vertex so false false in
    let h = (push g v).graph in
    let one = put-variable P g so false false S in
    let all = put_variables P h sorts one.sorted in
    let m : length h ≡ suc (length g) = push-length g v in
    rw (sym (append_assoc g (v ∷ []) (variables_of sorts))) (record {
      begins = begins_trans g h (h ++ variables_of sorts) one.begins all.begins;
      sorted = all.sorted;
      at = at h (h ++ variables_of sorts) m one.inside one.sort all;
    })
  where
    at : (h k : Graph) → length h ≡ suc (length g) → length g < length h → sort_at P h (length g) ≡ so → Opened P sorts h k
        → (i : ℕ) → i < suc (length sorts) → (length g + i < length k) × (sort_at P k (length g + i) ≡ get_or (so ∷ sorts) i 0)
    at h k m l s O zero b =
        let e : length g + 0 ≡ length g = omega arith in
        rw e (omega (arith, O.begins.longer), sort_at_begins P h k O.begins (length g) l ∙ s)
    at h k m l s O (suc i) b =
        let e : length g + suc i ≡ length h + i = omega arith in
        rw e (O.at i (omega arith))

-- they stand for a rule's variables
pub opened_standing : (P : Pack) (vars : List ℕ) (g h : Graph) → Opened P vars g h → Standing P vars (map (λ k. length g + k) (up_to (length vars))) h
opened_standing P vars g h O k l =
    let m = length_up_to (length vars) in
    let e : get_or (map (λ i. length g + i) (up_to (length vars))) k 0 ≡ length g + k = env (up_to (length vars)) k (omega arith) ∙ ap (λ (i : ℕ). length g + i) (up_to_at (length vars) k l) in
    rw e (O.at k l)
  where
    env : (ks : List ℕ) (k : ℕ) → k < length ks → get_or (map (λ i. length g + i) ks) k 0 ≡ length g + get_or ks k 0
    env [] k l = absurd (omega arith)
    env (i ∷ ks) zero l = refl
    env (i ∷ ks) (suc k) l = env ks k (omega arith)
