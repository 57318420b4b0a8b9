-- A line over a pattern's words, as it is put behind the text.
use Rattle.std.specs.Prelude.{◌≡◌, refl, false, List, [], map, ℕ, zero, suc, ◌-◌, ◌≤◌, ◌<◌, length, get_or, take, drop}
use Rattle.std.proofs.Common.{sym, ap, subst, ◌∙◌, arith, get_or-take, length-take-le}
use Rattle.std.proofs.Math.Option.{some}
use Rattle.definition.specs.Pack.{no_node}
use Rattle.definition.specs.Good.{Below}
use Rattle.definition.specs.Store.{is_variable}
use Rattle.definition.proofs.Laws.Grow.{below_at}
use Rattle.emission.specs.Line.{Word, Line, Tally}
use Rattle.emission.specs.State.{Emitter}
use Rattle.emission.specs.Words.{pattern_of, word_of}
use Rattle.store.specs.Words.{key_of}
use Rattle.store.specs.Stored.{nodes}
use Rattle.emit_theory.specs.Came.{came}
use Rattle.emit_match.specs.Words.{arguments_many, arguments_below}
use Rattle.emit_lines.specs.Words.{word_in}
use Rattle.emit_lines.specs.Lines.{PutsLine}
use Rattle.emit_state.specs.Holding.{Buffers, lends, World, Ready}
use Rattle.emit_state.specs.declared.places.Places.{Places}
use Rattle.emit_state.specs.declared.standing.Standing.{Standing}
use Rattle.emit_words.specs.declared.gather.Said.{Said}
use Rattle.emit_words.specs.Enough.{namings}
use Rattle.emit_words.specs.First.{Worded, namings_had}
use Rattle.emit_words.specs.Spelling.{Knows, KnowsAll, InEach, Gathers, pattern_is, stored_is}

-- p is an application of the store
pub record Placed (b : Buffers) (l : Places) (m : Standing) (p : ℕ) : Type 0 where
  pub world : World
  pub state : Emitter
  pub ready : Ready b l m world state
  pub there : p < length state.kept.store
  pub applied : is_variable (pattern_of state p) ≡ false

-- all arguments have words
abbrev pub Whole : Emitter → ℕ → Type 0
Whole e p = Worded e (pattern_of e p).args (length (pattern_of e p).args)

-- p is one of a state that work and the patterns' words are those of
pub record Collectable (work words : List ℕ) (l : Places) (m : Standing) (p : ℕ) : Type 0 where
  pub pack : List ℕ
  pub proof : List ℕ
  pub placed : Placed (lends pack work words proof) l m p

-- the words of p's arguments as numbers, if they have any
pub record Collected (work words : List ℕ) (l : Places) (m : Standing) (p : ℕ) (xs : List ℕ) (r : Said) : Type 0 where
  pub within : r.many ≤ length xs
  pub head : r.head ≡ (get_or (nodes words m.store) p no_node).head
  pub had : InEach work words l m (λ w e. Whole e p → namings w.setting (pattern_of e p).args e ≡ came [] (some (map word_in (take r.many xs))) e)

-- a line over the words of p's arguments was put, if they have any
pub record PutsOver (bytes work words text text' : List ℕ) (l : Places) (m : Standing) (p : ℕ) (Q : Tally → Type 0) (F : List Word → Line) (r : ℕ) : Type 0 where
  pub numbers : List ℕ
  pub had : InEach work words l m (λ w e. Whole e p → namings w.setting (pattern_of e p).args e ≡ came [] (some (map word_in numbers)) e)
  pub line : PutsLine bytes work text text' l.hand m.text Q (F (map word_in numbers)) r

module _ (pack work words proof : List ℕ) (l : Places) (m : Standing) (p : ℕ) (K : Placed (lends pack work words proof) l m p) where
  -- it is known
  pub placed_knows : Knows work words l m p
  placed_knows = record { pack = pack; proof = proof; world = K.world; state = K.state; ready = K.ready; there = let z = stored_is pack work words proof l m K.world K.state K.ready in omega (arith, z, K.there) }

  -- its key
  module _ (key : List ℕ) (k : key ≡ key_of (get_or (nodes words m.store) p no_node)) where
    -- by any state
    key_is : key ≡ key_of (pattern_of K.state p)
    key_is = k ∙ ap key_of (pattern_is pack work words proof l m K.world K.state K.ready p)

    -- its head is a symbol
    symbol-below : (pattern_of K.state p).head < length K.world.setting.pack.symbols
    symbol-below = (K.ready.sound.sorted p K.there).head K.applied

    -- its arguments are patterns
    pub placed-all : KnowsAll work words l m key
    placed-all =
        let S = K.world.setting in
        let e = K.state in
        let z = stored_is pack work words proof l m K.world e K.ready in
        let B = arguments_below S.pack K.ready.holding.proper.few e.kept.store K.ready.sound.sorted p K.there (pattern_of e p).head symbol-below refl in
        record {
          pack = pack;
          proof = proof;
          world = K.world;
          state = e;
          ready = K.ready;
          some = omega (arith, ap length key_is);
          there = λ i low high. at B z i low high;
        }
      where
        at : Below (length K.state.kept.store) (pattern_of K.state p).args → length (nodes words m.store) ≡ length K.state.kept.store → (i : ℕ) → 0 < i → i < length key → get_or key i 0 < length (nodes words m.store)
        at B z zero low high = absurd (omega arith)
        at B z (suc i) low high =
            let q : get_or key (suc i) 0 ≡ get_or (pattern_of K.state p).args i 0 = ap (λ (xs : List ℕ). get_or xs (suc i) 0) key_is in
            let y = below_at (length K.state.kept.store) (pattern_of K.state p).args i B (omega (arith, ap length key_is, high)) in
            omega (arith, q, y, z)

    -- it is a short one
    pub placed_few : length key ≤ 17
    placed_few =
        let S = K.world.setting in
        let e = K.state in
        let a = (K.ready.holding.proper.good.symbols (pattern_of e p).head symbol-below).arity in
        omega (arith, ap length key_is, a, arguments_many S.pack K.ready.holding.proper.few e.kept.store K.ready.sound.sorted p K.there (pattern_of e p).head symbol-below refl)

    -- the numbers that were gathered
    module _ (xs : List ℕ) (G : Gathers work words l m (drop 1 key) xs) (room : 16 ≤ length xs) where
      -- they are the words of its arguments
      gathered_had : InEach work words l m (λ w e. Whole e p → namings w.setting (pattern_of e p).args e ≡ came [] (some (map word_in (take (length key - 1) xs))) e)
      gathered_had pk pf w e R W =
          let n = length key - 1 in
          let q : key ≡ key_of (pattern_of e p) = k ∙ ap key_of (pattern_is pk work words pf l m w e R p) in
          let d : drop 1 key ≡ (pattern_of e p).args = ap (drop 1) q in
          let o : n ≡ length (pattern_of e p).args = omega (arith, ap length q) in
          namings_had w.setting word_in (pattern_of e p).args (take n xs) e (length-take-le n xs (omega (arith, placed_few)) ∙ o)
          (λ i h. ap (λ (ys : List ℕ). word_of e (get_or ys i 0)) (sym d)
          ∙ G pk pf w e R (subst (λ (ys : List ℕ). Worded e ys (length ys)) (sym d) W) i (omega (arith, ap length d))
          ∙ ap (λ (y : ℕ). some (word_in y)) (sym (get_or-take n xs i 0 (omega (arith, o)))))

      -- so they are collected
      pub collected : Collected work words l m p xs (record { head = get_or key 0 0; many = length key - 1 })
      collected = record { within = omega (arith, placed_few); head = ap (λ (ys : List ℕ). get_or ys 0 0) k; had = gathered_had }

-- a line over what was collected
pub puts_over : (pack work words proof proof' : List ℕ) (l : Places) (m : Standing) (p : ℕ) (Q : Tally → Type 0) (F : ℕ → List Word → Line) (r : ℕ) (xs : List ℕ) (c : Said) → Collected work words l m p xs c
    → (n : ℕ) → n ≡ c.many → PutsLine pack work proof proof' l.hand m.text Q (F c.head (map word_in (take n xs))) r → PutsOver pack work words proof proof' l m p Q (F (get_or (nodes words m.store) p no_node).head) r
puts_over pack work words proof proof' l m p Q F r xs c C n z A = record {
  numbers = take n xs;
  had = subst (λ (k : ℕ). InEach work words l m (λ w e. Whole e p → namings w.setting (pattern_of e p).args e ≡ came [] (some (map word_in (take k xs))) e)) (sym z) C.had;
  line = subst (λ (h : ℕ). PutsLine pack work proof proof' l.hand m.text Q (F h (map word_in (take n xs))) r) C.head A;
}
