-- Ground nodes put into a well-sorted graph: it stays well sorted, and what stands for them there has their sorts.
use Rattle.std.specs.Prelude.{◌≡◌, refl, true, false, List, [], ◌∷◌, map, ℕ, zero, suc, ◌<◌, ◌≤◌, eqb, length}
use Rattle.std.proofs.Common.{◌∙◌, arith, eqb-true}
use Rattle.std.proofs.Math.Option.{none, some}
use Rattle.std.proofs.lemmas.Bool.{eqb-false}
use Rattle.definition.specs.Test.{is, see}
use Rattle.definition.specs.Pack.{Pack, symbol_of, node_of, sort_of}
use Rattle.definition.specs.Good.{Below, Arguments, Good, Few}
use Rattle.definition.specs.Verdict.{value_of}
use Rattle.definition.specs.Graph.{Grown, applied, push}
use Rattle.definition.specs.Analysis.{pairing, copied}
use Rattle.emission.specs.Global.{Lowered, lower_one, lower}
use Rattle.theory.specs.Unification.Solve.{sort_at, SortsAt, Begins}
use Rattle.theory.specs.Copies.Begin.{begins_refl, begins_trans, sort_at_begins}
use Rattle.theory.specs.Copies.Copying.{newest, older, looked, value_of_new, value_of_old, copied_is}
use Rattle.emit_theory.specs.Graphs.{SortedGraph}
use Rattle.emit_theory.specs.Graph.Push.{Put, put-applied}

-- a well-sorted graph with nodes of their sorts for the ground nodes lowered so far
pub record Lowers (P : Pack) (w : Lowered) : Type 0 where
  pub sorted : SortedGraph P w.graph
  pub nodes : (n x : ℕ) → value_of n w.nodes ≡ some x → (x < length w.graph) × (sort_at P w.graph x ≡ sort_of P n)

-- a ground node that was lowered
abbrev pub Has : Lowered → ℕ → Type 0
Has w n = (x : ℕ) × (value_of n w.nodes ≡ some x)

-- ground nodes all of which were
abbrev pub HasAll : Lowered → List ℕ → Type 0
HasAll w [] = Unit {0}
HasAll w (n ∷ ns) = Has w n × HasAll w ns

-- what was lowered from w on
pub record LowersTo (P : Pack) (w v : Lowered) : Type 0 where
  pub begins : Begins w.graph v.graph
  pub lowers : Lowers P v
  pub has : (n : ℕ) → Has w n → Has v n

-- what stands for a node that was lowered is a node of its sort
pub copied_lowered : (P : Pack) (w : Lowered) → Lowers P w → (n : ℕ) → Has w n → (copied w.nodes n < length w.graph) × (sort_at P w.graph (copied w.nodes n) ≡ sort_of P n)
copied_lowered P w W n h = rw (copied_is w.nodes n h.0 h.1) (W.nodes n h.0 h.1)

-- nothing was lowered
lowers_refl : (P : Pack) (w : Lowered) → Lowers P w → LowersTo P w w
lowers_refl P w W = record { begins = begins_refl w.graph; lowers = W; has = λ n h. h }

-- from one to the next
lowers_trans : (P : Pack) (u v w : Lowered) → LowersTo P u v → LowersTo P v w → LowersTo P u w
lowers_trans P u v w a b = record { begins = begins_trans u.graph v.graph w.graph a.begins b.begins; lowers = b.lowers; has = λ n h. b.has n (a.has n h) }

-- what stands for a ground node's arguments lies in the graph
arguments_below : (P : Pack) (w : Lowered) → Lowers P w → (ns : List ℕ) → HasAll w ns → Below (length w.graph) (map (copied w.nodes) ns)
arguments_below P w W [] h = tt
arguments_below P w W (n ∷ ns) h = ((copied_lowered P w W n h.0).0, arguments_below P w W ns h.1)

-- and has the sorts wanted
arguments_sorts : (P : Pack) (w : Lowered) → Lowers P w → (i : ℕ) (ss ns : List ℕ) → Arguments P i ss ns → HasAll w ns → SortsAt P w.graph (map (copied w.nodes) ns) ss
arguments_sorts P w W i [] [] a h = tt
arguments_sorts P w W i [] (n ∷ ns) a h = absurd a
arguments_sorts P w W i (so ∷ ss) [] a h = absurd a
arguments_sorts P w W i (so ∷ ss) (n ∷ ns) a h = ((copied_lowered P w W n h.0).1 ∙ a.1, arguments_sorts P w W i ss ns a.2 h.1)

-- arguments are numbers below what their node is not above
arguments_before : (P : Pack) (i k : ℕ) → i ≤ k → (ss ns : List ℕ) → Arguments P i ss ns → Below k ns
arguments_before P i k l [] [] a = tt
arguments_before P i k l [] (n ∷ ns) a = absurd a
arguments_before P i k l (so ∷ ss) [] a = absurd a
arguments_before P i k l (so ∷ ss) (n ∷ ns) a = (omega (arith, a.0), arguments_before P i k l ss ns a.2)

-- what was lowered is so too when one more is
has_more : (w : Lowered) (made : Grown) (n q : ℕ) → Has w q → Has (record { graph = made.graph; nodes = pairing n made.at ∷ w.nodes }) q
has_more w made n q f = elim (see (eqb q n)) [
  | is true p ↦ let e : q ≡ n = eqb-true q n p in rw e (made.at, value_of_new n made.at w.nodes)
  | is false p ↦ (f.0, value_of_old n made.at w.nodes q (eqb-false q n p) ∙ f.1)
]

-- one ground node more behind those that stand for its arguments
node_lowered : (P : Pack) → Good P → Few P → (w : Lowered) → Lowers P w → (n : ℕ) → n < length P.nodes → HasAll w (node_of P n).args → (made : Grown)
    → made ≡ push w.graph (applied (node_of P n).head (map (copied w.nodes) (node_of P n).args))
    → let v : Lowered = record { graph = made.graph; nodes = pairing n made.at ∷ w.nodes } in LowersTo P w v × Has v n
unfolding sort_of
node_lowered P good few w W n l h made e =
    let N = good.nodes n l in
    let hd = (node_of P n).head in
    let args = (node_of P n).args in
    let xs = map (copied w.nodes) args in
    let M : Put P (symbol_of P hd).output w.graph made =
    rw e (put-applied P few w.graph hd xs W.sorted N.head (arguments_below P w W args h) (arguments_sorts P w W n (symbol_of P hd).inputs args N.args h)) in
    let b = M.begins in (
      record {
        begins = b;
        lowers = record {
          sorted = M.sorted;
          nodes = λ q x f. elim (looked n made.at w.nodes q x f) [
            | newest i j ↦ rw (i, j) (M.inside, M.sort)
            | older o ↦ let s = W.nodes q x o in (omega (arith, s.0, b.longer), sort_at_begins P w.graph made.graph b x s.0 ∙ s.1)
          ];
        };
        has = λ q f. has_more w made n q f;
      },
      (made.at, value_of_new n made.at w.nodes),
    )

-- ground nodes with all below them, each of a number below the levels: afterwards each has a node of its sort
pub lower_sorted : (P : Pack) → Good P → Few P → (d : ℕ) (ns : List ℕ) (w : Lowered) → Below d ns → Below (length P.nodes) ns → Lowers P w
    → LowersTo P w (lower d P ns w) × HasAll (lower d P ns w) ns
unfolding lower lower_one
lower_sorted P good few zero [] w b c W = (lowers_refl P w W, tt)
lower_sorted P good few zero (n ∷ ns) w b c W = absurd (omega (arith, b.0))
lower_sorted P good few (suc d) [] w b c W = (lowers_refl P w W, tt)
lower_sorted P good few (suc d) (n ∷ ns) w b c W =
    let one = lower_one P (λ ms v. lower d P ms v) n w in
    let O = first (λ ms v p q U. lower_sorted P good few d ms v p q U) in
    let R = lower_sorted P good few (suc d) ns one b.1 c.1 O.0.lowers in
    let all = lower (suc d) P ns one in
    (lowers_trans P w one all O.0 R.0, (R.0.has n O.1, R.1))
  where
    first : ((ms : List ℕ) (v : Lowered) → Below d ms → Below (length P.nodes) ms → Lowers P v → LowersTo P v (lower d P ms v) × HasAll (lower d P ms v) ms)
        → LowersTo P w (lower_one P (λ ms v. lower d P ms v) n w) × Has (lower_one P (λ ms v. lower d P ms v) n w) n
    first ih = elim (see (value_of n w.nodes)) [
      | is (some x) e ↦ rw (e, lower_one) (lowers_refl P w W, (x, e))
      | is none e ↦
          let ms = (node_of P n).args in
          let N = good.nodes n c.0 in
          let ss = (symbol_of P (node_of P n).head).inputs in
          let A = ih ms w (arguments_before P n d (omega (arith, b.0)) ss ms N.args) (arguments_before P n (length P.nodes) (omega (arith, c.0)) ss ms N.args) W in
          let v = lower d P ms w in
          let made = push v.graph (applied (node_of P n).head (map (copied v.nodes) ms)) in
          let M = node_lowered P good few v A.0.lowers n c.0 A.1 made refl in
          rw (e, lower_one) (lowers_trans P w v (record { graph = made.graph; nodes = pairing n made.at ∷ v.nodes }) A.0 M.0, M.1)
    ]
