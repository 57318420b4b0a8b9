-- Nodes in their words: where each starts, and what stands there.
use Rattle.std.specs.Prelude.{◌≡◌, refl, List, [], ◌∷◌, ◌++◌, ℕ, suc, ◌+◌, ◌-◌, ◌*◌, ◌≤◌, ◌<◌, length, get_or, take, drop}
use Rattle.std.proofs.Common.{sym, ap, ◌∙◌, append_assoc, append-nil, arith, length-append, length-drop, take_at}
use Rattle.std.proofs.Math.Seq.{split_at, take-length, drop-append-add, take-append_seam}
use Rattle.std.proofs.lemmas.List.{get_or_at, take-append-le}
use Rattle.definition.specs.Pack.{Node, no_node}
use Rattle.definition.specs.Store.{pattern_words, nodes_in}
use Rattle.definition.proofs.Laws.Store.{nodes-back}
use Rattle.base.specs.Part.{part}

-- a node's head and arguments, as a key gives them
abbrev pub key_of : Node → List ℕ
key_of n = n.head ∷ n.args

-- the node of a key
unfoldable pub node_with : List ℕ → Node
node_with key = record { head = get_or key 0 0; args = drop 1 key }

pub key_of_law : (key : List ℕ) → 0 < length key → key_of (node_with key) ≡ key
unfolding node_with
key_of_law [] h = absurd (omega arith)
key_of_law (x ∷ xs) h = refl

pub node_of_law : (n : Node) → node_with (key_of n) ≡ n
unfolding node_with
node_of_law n = refl

pub key-args : (key : List ℕ) → length (node_with key).args ≡ length key - 1
unfolding node_with
key-args key = length-drop 1 key

-- where the words of node i start
unfoldable pub start : List Node → ℕ → ℕ
start s i = length (pattern_words (take i s))

pub words_append : (s t : List Node) → pattern_words (s ++ t) ≡ pattern_words s ++ pattern_words t
unfolding pattern_words
words_append [] t = refl
words_append (n ∷ s) t = ap (λ (ws : List ℕ). length n.args ∷ n.head ∷ ws) (ap (λ (ws : List ℕ). n.args ++ ws) (words_append s t) ∙ sym (append_assoc n.args (pattern_words s) (pattern_words t)))

pub words-one : (n : Node) → pattern_words (n ∷ []) ≡ length n.args ∷ key_of n
unfolding pattern_words
words-one n = ap (λ (ws : List ℕ). length n.args ∷ n.head ∷ ws) (append-nil n.args)

-- a node more takes its arguments' words, its head's and its count's
pub length_more : (s : List Node) (n : Node) → length (pattern_words (s ++ (n ∷ []))) ≡ length (pattern_words s) + (length n.args + 2)
length_more s n =
    let e = ap length (words_append s (n ∷ []) ∙ ap (λ (ws : List ℕ). pattern_words s ++ ws) (words-one n)) in
    let f = length-append (pattern_words s) (length n.args ∷ key_of n) in
    omega arith

-- a node has two words at least
pub words-most : (s : List Node) → 2 * length s ≤ length (pattern_words s)
unfolding pattern_words
words-most [] = omega arith
words-most (n ∷ s) = let l = length-append n.args (pattern_words s) in let i = words-most s in omega arith

-- words that begin with a store's
pub record Begins (s : List Node) (words : List ℕ) : Type 0 where
  pub rest : List ℕ
  pub are : words ≡ pattern_words s ++ rest

-- they are read back as the store
pub begins_nodes : (s : List Node) (words : List ℕ) → Begins s words → nodes_in (length s) words ≡ s
unfolding nodes_in
begins_nodes s words b =
    let e : length s - length s ≡ 0 = omega arith in
    ap (nodes_in (length s)) b.are ∙ nodes-back (length s) s b.rest (omega arith) ∙ ap (λ (k : ℕ). s ++ nodes_in k b.rest) e ∙ append-nil s

-- they end within
pub begins_long : (s : List Node) (words : List ℕ) → Begins s words → length (pattern_words s) ≤ length words
begins_long s words b = omega (arith, ap length b.are, length-append (pattern_words s) b.rest)

pub begins_take : (s : List Node) (words : List ℕ) → Begins s words → take (length (pattern_words s)) words ≡ pattern_words s
begins_take s words b = ap (take (length (pattern_words s))) b.are ∙ take-append_seam (pattern_words s) b.rest

-- what stands at a node's start: its count, then its key
pub record Stands (s : List Node) (words : List ℕ) (i : ℕ) : Type 0 where
  pub count : get_or words (start s i) 0 ≡ length (get_or s i no_node).args
  pub key : part (start s i + 1) (length (get_or s i no_node).args + 1) words ≡ key_of (get_or s i no_node)
  pub ends : start s i + (length (get_or s i no_node).args + 2) ≤ length (pattern_words s)

pub stands : (s : List Node) (words : List ℕ) (i : ℕ) → Begins s words → i < length s → Stands s words i
unfolding start part
stands s words i b h =
    let n = get_or s i no_node in
    let front : List ℕ = pattern_words (take i s) in
    let back : List ℕ = pattern_words (drop (suc i) s) in
    let p : pattern_words s ≡ front ++ ((length n.args ∷ key_of n) ++ back) =
    ap pattern_words (split_at s i no_node h) ∙ words_append (take i s) (n ∷ drop (suc i) s)
    ∙ ap (λ (ws : List ℕ). front ++ ws) (words_append (n ∷ []) (drop (suc i) s) ∙ ap (λ (ws : List ℕ). ws ++ back) (words-one n)) in
    let q : words ≡ front ++ ((length n.args ∷ key_of n) ++ (back ++ b.rest)) =
    b.are ∙ ap (λ (ws : List ℕ). ws ++ b.rest) p ∙ append_assoc front ((length n.args ∷ key_of n) ++ back) b.rest
    ∙ ap (λ (ws : List ℕ). front ++ ws) (append_assoc (length n.args ∷ key_of n) back b.rest) in
    let l = ap length p in
    let l₁ = length-append front ((length n.args ∷ key_of n) ++ back) in
    let l₂ = length-append (length n.args ∷ key_of n) back in
    let e : length n.args + 1 ≡ length (key_of n) = omega arith in
    record {
      count = ap (λ (ws : List ℕ). get_or ws (length front) 0) q ∙ get_or_at front (length n.args) (key_of n ++ (back ++ b.rest)) 0 (length front) refl;
      key = ap (λ (ws : List ℕ). take (length n.args + 1) (drop (length front + 1) ws)) q
          ∙ ap (take (length n.args + 1)) (drop-append-add front ((length n.args ∷ key_of n) ++ (back ++ b.rest)) 1)
          ∙ take_at (key_of n) (back ++ b.rest) (length n.args + 1) (sym e);
      ends = omega arith;
    }

-- the first starts do not change when a node comes behind them
pub start-more : (s : List Node) (n : Node) (i : ℕ) → i ≤ length s → start (s ++ (n ∷ [])) i ≡ start s i
unfolding start
start-more s n i h = ap (λ (t : List Node). length (pattern_words t)) (take-append-le i s (n ∷ []) h)

pub start-last : (s : List Node) → start s (length s) ≡ length (pattern_words s)
unfolding start
start-last s = ap (λ (t : List Node). length (pattern_words t)) (take-length s)
