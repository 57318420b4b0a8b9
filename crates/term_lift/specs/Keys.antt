-- A node's key built word by word, and what is asked of the node.
use Rattle.std.specs.Prelude.{◌≡◌, List, [], ◌∷◌, ◌++◌, map, ℕ, suc, ◌+◌, ◌-◌, ◌≤◌, ◌<◌, length, get_or, set, take}
use Rattle.std.proofs.Common.{sym, ap, ◌∙◌, add-one, arith, length-set, take-suc, take-suc-set, take_all}
use Rattle.std.proofs.lemmas.List.{map-append}
use Rattle.definition.specs.Pack.{Pack, node_of, symbol_of}
use Rattle.definition.proofs.Laws.Tree.{arguments_many}
use Rattle.theory.specs.Walks.Walk.{under_at, below-under}
use Rattle.theory.specs.Walks.Lifting.{args_of, args_inside}
use Rattle.pack_tables.specs.Catalog.{records_of}
use Rattle.pack_tables.specs.declared.catalog.Catalog.{Catalog}
use Rattle.pack_read.specs.Reads.{Reads, length-nodes}
use Rattle.pack_read.specs.Says.{OfPack}
use Rattle.pack_read.specs.Held.{Proper, OfHeld}
use Rattle.term_lift.specs.Lifts.{Ripe, Keyed, pattern_in}
use Rattle.term_lift.specs.declared.lift.Lifted.{Lifted}

-- a node has at most 16 arguments
pub arguments_few : (P : Pack) → Proper P → (n : ℕ) → n < length P.nodes → length (args_of P n) ≤ 16
arguments_few P p n h =
    let g = p.good.nodes n h in
    let m = arguments_many P n (symbol_of P (node_of P n).head).inputs (args_of P n) g.args in
    omega (arith, (p.good.symbols (node_of P n).head g.head).arity)

-- each of them is a node
pub argument_given : (P : Pack) → Proper P → (n j : ℕ) → n < length P.nodes → j < length (args_of P n) → get_or (args_of P n) j 0 < length P.nodes
argument_given P p n j h k = under_at (λ m. m) (length P.nodes) (args_of P n) j (below-under (length P.nodes) (args_of P n) (args_inside P p.good n h)) k

-- the first words are the head and what the first i arguments were lifted to
pub record Keying (bytes work : List ℕ) (c : Catalog) (at n k i : ℕ) (key : List ℕ) : Type 0 where
  pub long : length key ≡ 17
  pub few : i ≤ k
  pub most : k ≤ 16
  pub many : OfHeld bytes work c (λ P. k ≡ length (args_of P n))
  pub words : OfHeld bytes work c (λ P. take (suc i) key ≡ (node_of P n).head ∷ map (λ a. get_or work (at + a) 0 - 1) (take i (args_of P n)))

module _ (bytes work : List ℕ) (c : Catalog) (l : Lifted) (n : ℕ) (R : Ripe bytes work c l n) where
  -- the node is recorded
  pub ripe_recorded : n < length (records_of work c 3)
  ripe_recorded = omega (arith, R.given, R.many)

  -- in each pack held
  pub ripe_given : (P : Pack) → Reads bytes (records_of work c) P → n < length P.nodes
  ripe_given P r = omega (arith, ripe_recorded, length-nodes bytes (records_of work c) P r)

  module _ (k : ℕ) (f : OfPack bytes work c (λ P. length (args_of P n)) k) where
    -- the key has room
    pub arity_few : k ≤ 16
    arity_few = omega (arith, f R.held.pack R.held.reads, arguments_few R.held.pack R.held.proper n (ripe_given R.held.pack R.held.reads))

    -- the head
    pub keying_first : (key : List ℕ) → length key ≡ 17 → (h : ℕ) → OfPack bytes work c (λ P. (node_of P n).head) h → Keying bytes work c l.at n k 0 (set key 0 h)
    keying_first key e h g = record {
      long = length-set key 0 h ∙ e;
      few = omega arith;
      most = arity_few;
      many = λ P r p. f P r;
      words = λ P r p. take-suc-set key 0 h (omega arith) ∙ ap (λ (v : ℕ). v ∷ []) (g P r);
    }

  module _ (k i : ℕ) (key : List ℕ) (K : Keying bytes work c l.at n k i key) where
    -- there is one more argument
    pub keying_left : i < k → i < length (args_of R.held.pack n)
    keying_left h = omega (arith, K.many R.held.pack R.held.reads R.held.proper)

    -- a node that is lifted
    module _ (h : i < k) (a : ℕ) (f : OfPack bytes work c (λ P. get_or (args_of P n) i 0) a) where
      -- a node whose word is there
      pub keying_given : a < l.nodes
      keying_given =
          let P = R.held.pack in
          let r = R.held.reads in
          omega (arith, f P r, argument_given P R.held.proper n i (ripe_given P r) (keying_left h), R.many, length-nodes bytes (records_of work c) P r)

      -- and says something
      pub keying_lifted : 0 < get_or work (l.at + a) 0
      keying_lifted =
          let P = R.held.pack in
          let r = R.held.reads in
          rw (f P r) (R.ripe P r R.held.proper i (keying_left h))

      -- one word more of the key
      pub keying_more : Keying bytes work c l.at n k (i + 1) (set key (i + 1) (get_or work (l.at + a) 0 - 1))
      keying_more = record {
        long = length-set key (i + 1) (get_or work (l.at + a) 0 - 1) ∙ K.long;
        few = omega arith;
        most = K.most;
        many = K.many;
        words = λ P r p.
            let at : ℕ → ℕ = λ b. get_or work (l.at + b) 0 - 1 in
            let args = args_of P n in
            let h' : i < length args = omega (arith, K.many P r p) in
            let e : take (i + 1) args ≡ take i args ++ (a ∷ []) = ap (λ (j : ℕ). take j args) (add-one i) ∙ take-suc args i 0 h' ∙ ap (λ (b : ℕ). take i args ++ (b ∷ [])) (sym (f P r)) in
            take-suc-set key (i + 1) (at a) (omega (arith, K.long, K.most))
            ∙ ap (λ (j : ℕ). take j key ++ (at a ∷ [])) (add-one i)
            ∙ ap (λ (ws : List ℕ). ws ++ (at a ∷ [])) (K.words P r p)
            ∙ ap (λ (ws : List ℕ). (node_of P n).head ∷ ws) (sym (map-append at (take i args) (a ∷ [])) ∙ ap (map at) (sym e));
      }

    -- there is none
    pub keying_all : k ≤ i → Keyed bytes work c l n key (k + 1)
    keying_all h = record {
      some = omega arith;
      few = omega (arith, K.most);
      words = λ P r p.
          let e : k + 1 ≡ suc i = omega (arith, K.few) in
          ap (λ (j : ℕ). take j key) e ∙ K.words P r p
          ∙ ap (λ (xs : List ℕ). (node_of P n).head ∷ map (pattern_in work l) xs) (take_all i (args_of P n) (omega (arith, K.many P r p)));
    }
