-- What ground nodes stand for: the tree of a node is its head over the trees of its arguments, and no two nodes have one tree.
use Rattle.std.specs.Prelude.{◌≡◌, refl, List, [], ◌∷◌, ◌++◌, ℕ, zero, suc, ◌+◌, ◌<◌, length, get_or}
use Rattle.std.proofs.Common.{sym, ap, ap₂, ◌∙◌, arith, length-append}
use Rattle.std.proofs.Math.ListN.{get_or-append}
use Rattle.std.proofs.lemmas.List.{get_or_at}
use Rattle.definition.specs.Test.{never}
use Rattle.definition.specs.Pack.{Node, Pack, no_node, node_of, symbol_of}
use Rattle.definition.specs.Tree.{Tree, Trees, tree, tree_then, no_tree, pick, grow, trees, tree_of}
use Rattle.definition.proofs.Laws.Grow.{below_more}
use Rattle.definition.specs.Good.{Below, Arguments, Good, Once}

-- arguments are earlier nodes
pub arguments_below : (P : Pack) (i : ℕ) (ss args : List ℕ) → Arguments P i ss args → Below i args
arguments_below P i [] [] a = tt
arguments_below P i [] (x ∷ args) a = absurd a
arguments_below P i (s ∷ ss) [] a = absurd a
arguments_below P i (s ∷ ss) (x ∷ args) a = (a.0, arguments_below P i ss args a.2)

-- trees that are the same below n give the same for numbers below n
pick_same : (ts us : List Tree) (n : ℕ) (args : List ℕ) → Below n args → ((i : ℕ) → i < n → get_or ts i no_tree ≡ get_or us i no_tree) → pick ts args ≡ pick us args
unfolding pick
pick_same ts us n [] b h = refl
pick_same ts us n (a ∷ args) b h = ap₂ tree_then (h a b.0) (pick_same ts us n args b.1 h)

pub length-grow : (ts : List Tree) (ns : List Node) → length (grow ts ns) ≡ length ts + length ns
unfolding grow
length-grow ts [] = omega arith
length-grow ts (n ∷ ns) =
    let x = tree n.head (pick ts n.args) in
    let e = length-grow (ts ++ (x ∷ [])) ns in
    let l = length-append ts (x ∷ []) in
    omega arith

-- trees that are there stay
grow-old : (ts : List Tree) (ns : List Node) (i : ℕ) → i < length ts → get_or (grow ts ns) i no_tree ≡ get_or ts i no_tree
unfolding grow
grow-old ts [] i h = refl
grow-old ts (n ∷ ns) i h =
    let x = tree n.head (pick ts n.args) in
    let l = length-append ts (x ∷ []) in
    grow-old (ts ++ (x ∷ [])) ns i (omega arith) ∙ get_or-append ts (x ∷ []) no_tree i h

-- each node's tree is its head over the trees of its arguments, if these are earlier
grow-new : (ts : List Tree) (ns : List Node) → ((i : ℕ) → i < length ns → Below (length ts + i) (get_or ns i no_node).args)
    → (i : ℕ) → i < length ns → get_or (grow ts ns) (length ts + i) no_tree ≡ tree (get_or ns i no_node).head (pick (grow ts ns) (get_or ns i no_node).args)
unfolding grow
grow-new ts [] b i h = absurd (omega arith)
grow-new ts (n ∷ ns) b zero h =
    let x = tree n.head (pick ts n.args) in
    let l = length-append ts (x ∷ []) in
    let e : length ts + 0 ≡ length ts = omega arith in
    let us = grow (ts ++ (x ∷ [])) ns in
    let old : (k : ℕ) → k < length ts → get_or ts k no_tree ≡ get_or us k no_tree = λ k m. sym (grow-old (ts ++ (x ∷ [])) ns k (omega arith) ∙ get_or-append ts (x ∷ []) no_tree k m) in
    let b0 : Below (length ts + 0) n.args = b 0 (omega arith) in
    let q = pick_same ts us (length ts) n.args (below_more (length ts + 0) (length ts) n.args (omega arith) b0) old in
    rw e (grow-old (ts ++ (x ∷ [])) ns (length ts) (omega arith) ∙ get_or_at ts x [] no_tree (length ts) refl ∙ ap (tree n.head) q)
grow-new ts (n ∷ ns) b (suc i) h =
    let x = tree n.head (pick ts n.args) in
    let l = length-append ts (x ∷ []) in
    let e : length ts + suc i ≡ length (ts ++ (x ∷ [])) + i = omega arith in
    let c : (k : ℕ) → k < length ns → Below (length (ts ++ (x ∷ [])) + k) (get_or ns k no_node).args =
    λ k m. below_more (length ts + suc k) (length (ts ++ (x ∷ [])) + k) (get_or ns k no_node).args (omega arith) (b (suc k) (omega arith)) in
    rw e (grow-new (ts ++ (x ∷ [])) ns c i (omega arith))

-- as many arguments as sorts of them
pub arguments_many : (P : Pack) (i : ℕ) (ss args : List ℕ) → Arguments P i ss args → length args ≡ length ss
arguments_many P i [] [] a = refl
arguments_many P i [] (x ∷ args) a = absurd a
arguments_many P i (s ∷ ss) [] a = absurd a
arguments_many P i (s ∷ ss) (x ∷ args) a = ap suc (arguments_many P i ss args a.2)

-- a good pack's nodes rest on earlier ones
pub args-below : (P : Pack) → Good P → (n : ℕ) → n < length P.nodes → Below n (node_of P n).args
args-below P G n h = let g = G.nodes n h in arguments_below P n (symbol_of P (node_of P n).head).inputs (node_of P n).args g.args

-- the tree of a node
pub tree_node : (P : Pack) → Good P → (n : ℕ) → n < length P.nodes → tree_of P n ≡ tree (node_of P n).head (pick (trees P) (node_of P n).args)
unfolding tree_of trees node_of
tree_node P G n h =
    let b : (i : ℕ) → i < length P.nodes → Below (0 + i) (get_or P.nodes i no_node).args =
    λ i m. below_more i (0 + i) (get_or P.nodes i no_node).args (omega arith) (args-below P G i m) in
    let e : 0 + n ≡ n = omega arith in
    rw e at (grow-new [] P.nodes b n h)

tree_head : {h k : ℕ} {ts us : Trees} → tree h ts ≡ tree k us → h ≡ k
tree_head e = cc

tree_below : {h k : ℕ} {ts us : Trees} → tree h ts ≡ tree k us → ts ≡ us
tree_below e = cc

-- what no two numbers below n share, no two lists of them share
pick_once : (P : Pack) (n : ℕ) → ((a b : ℕ) → a < n → b < length P.nodes → tree_of P a ≡ tree_of P b → a ≡ b)
    → (xs ys : List ℕ) → Below n xs → Below (length P.nodes) ys → pick (trees P) xs ≡ pick (trees P) ys → xs ≡ ys
unfolding pick tree_of
pick_once P n once [] [] p q e = refl
pick_once P n once [] (b ∷ ys) p q e = never (cc)
pick_once P n once (a ∷ xs) [] p q e = never (cc)
pick_once P n once (a ∷ xs) (b ∷ ys) p q e =
    let f : tree_of P a ≡ tree_of P b = cc in
    let g : pick (trees P) xs ≡ pick (trees P) ys = cc in
    ap₂ ◌∷◌ (once a b p.0 q.0 f) (pick_once P n once xs ys p.1 q.1 g)

node_is : (n m : Node) → n.head ≡ m.head → n.args ≡ m.args → n ≡ m
node_is n m p q = λ i. record { head = p i; args = q i }

once_below : (P : Pack) → Good P → Once P → (k n m : ℕ) → n < k → n < length P.nodes → m < length P.nodes → tree_of P n ≡ tree_of P m → n ≡ m
once_below P G O zero n m h p q e = absurd (omega arith)
once_below P G O (suc k) n m h p q e =
    let f = sym (tree_node P G n p) ∙ e ∙ tree_node P G m q in
    let b = args-below P G n p in
    let c = below_more m (length P.nodes) (node_of P m).args (omega arith) (args-below P G m q) in
    let once : (a b : ℕ) → a < n → b < length P.nodes → tree_of P a ≡ tree_of P b → a ≡ b = λ a b u v w. once_below P G O k a b (omega arith) (omega arith) v w in
    let args = pick_once P n once (node_of P n).args (node_of P m).args b c (tree_below f) in
    O.nodes n m p q (node_is (node_of P n) (node_of P m) (tree_head f) args)

-- "No node is given twice": equal terms are equal numbers
pub tree_once : (P : Pack) → Good P → Once P → (n m : ℕ) → n < length P.nodes → m < length P.nodes → tree_of P n ≡ tree_of P m → n ≡ m
tree_once P G O n m = once_below P G O (suc n) n m (omega arith)
