-- The key of a step written word by word.
use Rattle.std.specs.Prelude.{◌≡◌, true, false, ℕ, suc, ◌+◌, ◌≤◌, ◌<◌, length, set}
use Rattle.std.proofs.Common.{sym, ◌∙◌, add-one, arith, length-set, take-suc, take-suc-set, take_all}
use Rattle.std.proofs.Math.Path.{ap}
use mathlib.Core.List.{List, [], ◌∷◌, ◌++◌, map, map-append}
use Rattle.std.proofs.Math.ListN.{get_or, take}
use Rattle.definition.specs.Pack.{Pack, step_of}
use Rattle.definition.specs.Store.{nothing}
use Rattle.definition.specs.Keys.{first_of, predicate_of, is_a_cut, key_of}
use Rattle.theory.specs.Keys.Keyed.{get_d_any}
use Rattle.pack_tables.specs.Catalog.{records_of}
use Rattle.pack_tables.specs.declared.catalog.Catalog.{Catalog}
use Rattle.pack_read.specs.Reads.{Reads, length_steps}
use Rattle.pack_read.specs.Held.{OfHeld}
use Rattle.pack_read.specs.Says.{OfPack}
use Rattle.class_keys.specs.Firsts.{Noted}
use Rattle.class_keys.specs.Marking.{ref-given, first_inside}
use Rattle.class_keys.specs.Spell.{spell, ref_classes, key-cut, key-rule, refs_few}

-- the first steps are noted, each step has a word, and s is one
pub record Asked (bytes work class : List ℕ) (c : Catalog) (at s : ℕ) : Type 0 where
  pub noted : Noted bytes work c at
  pub words : length (records_of work c 4) ≤ length class
  pub given : s < length (records_of work c 4)

-- the first r words are the key
pub record Written (bytes work class : List ℕ) (c : Catalog) (s : ℕ) (key : List ℕ) (r : ℕ) : Type 0 where
  pub few : r ≤ 18
  pub words : OfHeld bytes work c (λ P. take r key ≡ spell (key_of P class s))

-- as for a step that is not cut
pub record WrittenRule (bytes work class : List ℕ) (c : Catalog) (s : ℕ) (key : List ℕ) (r : ℕ) : Type 0 where
  pub few : r ≤ 18
  pub words : OfHeld bytes work c (λ P. take r key ≡ 1 ∷ (step_of P s).rule ∷ ref_classes P class s)

-- the first words are the rule, and the classes of the first i refs of n
pub record Writing (bytes work class : List ℕ) (c : Catalog) (s n i : ℕ) (key : List ℕ) : Type 0 where
  pub long : length key ≡ 18
  pub few : i ≤ n
  pub most : n ≤ 16
  pub many : OfPack bytes work c (λ P. length (step_of P s).refs) n
  pub words : OfHeld bytes work c (λ P. take (2 + i) key ≡ 1 ∷ (step_of P s).rule ∷ map (λ r. get_or class (first_of P r) nothing) (take i (step_of P s).refs))

-- two words
pub two-words : (key : List ℕ) (a b : ℕ) → 2 ≤ length key → take 2 (set (set key 0 a) 1 b) ≡ a ∷ b ∷ []
two-words key a b h = take-suc-set (set key 0 a) 1 b (omega (arith, length-set key 0 a)) ∙ ap (λ (xs : List ℕ). xs ++ (b ∷ [])) (take-suc-set key 0 a (omega arith))

module _ (bytes work class : List ℕ) (c : Catalog) (at s : ℕ) (A : Asked bytes work class c at s) where
  -- a step that is cut
  pub written-cut : (key : List ℕ) (b : ℕ) → length key ≡ 18 → OfHeld bytes work c (λ P. b ≡ predicate_of P s) → OfHeld bytes work c (λ P. is_a_cut P (predicate_of P s) ≡ true) → Written bytes work class c s (set (set key 0 0) 1 b) 2
  written-cut key b l f t = record {
    few = omega arith;
    words = λ P R Q. two-words key 0 b (omega arith) ∙ ap (λ (p : ℕ). 0 ∷ p ∷ []) (f P R Q) ∙ sym (key-cut P class s (t P R Q));
  }

  -- one that is not
  pub written-rule : (key : List ℕ) (r : ℕ) → WrittenRule bytes work class c s key r → OfHeld bytes work c (λ P. is_a_cut P (predicate_of P s) ≡ false) → Written bytes work class c s key r
  written-rule key r W t = record { few = W.few; words = λ P R Q. W.words P R Q ∙ sym (key-rule P class s (t P R Q)) }

  -- the pack that is held
  abbrev H : Pack
  H = A.noted.placed.held.pack

  -- as its records say
  abbrev HR : Reads bytes (records_of work c) H
  HR = A.noted.placed.held.reads

  module _ (n : ℕ) (f : OfPack bytes work c (λ P. length (step_of P s).refs) n) where
    -- there is room for all refs
    pub refs-most : n ≤ 16
    refs-most = omega (arith, f H HR, refs_few H A.noted.placed.held.proper.good s (omega (arith, A.given, length_steps bytes (records_of work c) H HR)))

    -- the rule
    pub writing_first : (key : List ℕ) → length key ≡ 18 → (b : ℕ) → OfPack bytes work c (λ P. (step_of P s).rule) b → Writing bytes work class c s n 0 (set (set key 0 1) 1 b)
    writing_first key l b g = record {
      long = length-set (set key 0 1) 1 b ∙ length-set key 0 1 ∙ l;
      few = omega arith;
      most = refs-most;
      many = f;
      words = λ P R Q. two-words key 1 b (omega arith) ∙ ap (λ (r : ℕ). 1 ∷ r ∷ []) (g P R);
    }

  module _ (n i : ℕ) (key : List ℕ) (W : Writing bytes work class c s n i key) where
    -- there is one ref more
    pub writing_left : i < n → i < length (step_of H s).refs
    writing_left h = omega (arith, W.many H HR)

    module _ (h : i < n) (r : ℕ) (f : OfPack bytes work c (λ P. get_or (step_of P s).refs i 0) r) where
      -- it is a step
      pub writing_ref : r < length (records_of work c 4)
      writing_ref = ref-given bytes work c at A.noted s i r A.given (writing_left h) f

      module _ (v : ℕ) (g : OfHeld bytes work c (λ P. v ≡ first_of P r)) where
        -- its first step has a word
        pub writing_inside : v < length class
        writing_inside = omega (arith, first_inside bytes work c at A.noted r v writing_ref g, A.words)

        -- it is written
        pub writing_more : Writing bytes work class c s n (i + 1) (set key (i + 2) (get_or class v 0))
        writing_more = record {
          long = length-set key (i + 2) (get_or class v 0) ∙ W.long;
          few = omega arith;
          most = W.most;
          many = W.many;
          words = λ P R Q.
              let refs = (step_of P s).refs in
              let m : ℕ → ℕ = λ q. get_or class (first_of P q) nothing in
              let h' : i < length refs = omega (arith, W.many P R) in
              let a : 2 + (i + 1) ≡ suc (i + 2) = omega arith in
              let b : i + 2 ≡ 2 + i = omega arith in
              let w : get_or class v 0 ≡ m r = get_d_any class v 0 nothing writing_inside ∙ ap (λ (q : ℕ). get_or class q nothing) (g P R Q) in
              let e : take (i + 1) refs ≡ take i refs ++ (r ∷ []) = ap (λ (j : ℕ). take j refs) (add-one i) ∙ take-suc refs i 0 h' ∙ ap (λ (q : ℕ). take i refs ++ (q ∷ [])) (sym (f P R)) in
              ap (λ (j : ℕ). take j (set key (i + 2) (get_or class v 0))) a
              ∙ take-suc-set key (i + 2) (get_or class v 0) (omega (arith, W.long, W.most))
              ∙ ap (λ (j : ℕ). take j key ++ (get_or class v 0 ∷ [])) b
              ∙ ap (λ (ws : List ℕ). ws ++ (get_or class v 0 ∷ [])) (W.words P R Q)
              ∙ ap (λ (x : ℕ). 1 ∷ (step_of P s).rule ∷ (map m (take i refs) ++ (x ∷ []))) w
              ∙ ap (λ (ws : List ℕ). 1 ∷ (step_of P s).rule ∷ ws) (sym (map-append m (take i refs) (r ∷ [])) ∙ ap (map m) (sym e));
        }

    -- all refs
    pub writing_all : n ≤ i → WrittenRule bytes work class c s key (n + 2)
    unfolding ref_classes
    writing_all h = record {
      few = omega (arith, W.most);
      words = λ P R Q.
          let e : n + 2 ≡ 2 + i = omega (arith, W.few) in
          ap (λ (j : ℕ). take j key) e ∙ W.words P R Q
          ∙ ap (λ (xs : List ℕ). 1 ∷ (step_of P s).rule ∷ map (λ r. get_or class (first_of P r) nothing) xs) (take_all i (step_of P s).refs (omega (arith, W.many P R)));
    }
