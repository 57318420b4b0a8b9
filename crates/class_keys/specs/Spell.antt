-- Keys as words, and what a key depends on. These are laws of the definition alone.
use Rattle.std.specs.Prelude.{◌≡◌, refl, true, false, List, [], ◌∷◌, map, ℕ, ◌≤◌, ◌<◌, length, get_or, set, take}
use Rattle.std.proofs.Common.{sym, ap, ap₂, arith, get_or-set_other, get_or-take}
use Rattle.definition.specs.Test.{is, see, never}
use Rattle.definition.specs.Pack.{Pack, step_of}
use Rattle.definition.specs.Good.{Below, Good}
use Rattle.definition.specs.Store.{nothing}
use Rattle.definition.specs.Keys.{first_of, predicate_of, is_a_cut, Key, cut_key, rule_key, key_of}
use Rattle.theory.specs.Keys.Keyed.{refs-below}

-- a mark, then the predicate, or the rule and the refs' classes
unfoldable pub spell : Key → List ℕ
spell (cut_key p) = 0 ∷ p ∷ []
spell (rule_key r cs) = 1 ∷ r ∷ cs

-- two keys are spelt alike only if they are one
pub spell_once : (k l : Key) → spell k ≡ spell l → k ≡ l
unfolding spell
spell_once (cut_key p) (cut_key q) e = let z : p ≡ q = cc in ap cut_key z
spell_once (cut_key p) (rule_key r cs) e = let z : ◌≡◌ {A = ℕ} 0 1 = cc in never z
spell_once (rule_key r cs) (cut_key p) e = let z : ◌≡◌ {A = ℕ} 1 0 = cc in never (sym z)
spell_once (rule_key r cs) (rule_key q ds) e = let z : r ≡ q = cc in let w : cs ≡ ds = cc in ap₂ rule_key z w

-- the classes of a step's refs
unfoldable pub ref_classes : Pack → List ℕ → ℕ → List ℕ
unfolding first_of step_of
ref_classes P words s = map (λ r. get_or words (first_of P r) nothing) (step_of P s).refs

-- the key of a step that is cut
pub key-cut : (P : Pack) (words : List ℕ) (s : ℕ) → is_a_cut P (predicate_of P s) ≡ true → spell (key_of P words s) ≡ 0 ∷ predicate_of P s ∷ []
unfolding key_of spell
key-cut P words s e = rw (e, key_of)

-- the key of one that is not
pub key-rule : (P : Pack) (words : List ℕ) (s : ℕ) → is_a_cut P (predicate_of P s) ≡ false → spell (key_of P words s) ≡ 1 ∷ (step_of P s).rule ∷ ref_classes P words s
unfolding key_of spell ref_classes
key-rule P words s e = rw (e, key_of)

-- a key depends only on the words of steps before its own
refs-same : (P : Pack) (ws vs : List ℕ) (t : ℕ) (refs : List ℕ) → Below t (map (first_of P) refs) → ((f : ℕ) → f < t → get_or ws f nothing ≡ get_or vs f nothing)
    → map (λ r. get_or ws (first_of P r) nothing) refs ≡ map (λ r. get_or vs (first_of P r) nothing) refs
refs-same P ws vs t [] b e = refl
refs-same P ws vs t (r ∷ refs) b e = ap₂ ◌∷◌ (e (first_of P r) b.0) (refs-same P ws vs t refs b.1 e)

-- so two lists of words that are alike before the step give it one key
pub key-same : (P : Pack) → Good P → (ws vs : List ℕ) (s : ℕ) → s < length P.steps → ((f : ℕ) → f < s → get_or ws f nothing ≡ get_or vs f nothing) → key_of P ws s ≡ key_of P vs s
unfolding key_of
key-same P G ws vs s h e = elim (see (is_a_cut P (predicate_of P s))) [
  | is true p ↦ rw (p, key_of)
  | is false p ↦ rw (p, key_of) (ap (rule_key (step_of P s).rule) (refs-same P ws vs s (step_of P s).refs (refs-below P G s h) e))
]

-- a word of this or a later step changes nothing
pub key_set : (P : Pack) → Good P → (ws : List ℕ) (s t v : ℕ) → t < length P.steps → t ≤ s → key_of P (set ws s v) t ≡ key_of P ws t
key_set P G ws s t v h l = key-same P G (set ws s v) ws t h (λ f b. get_or-set_other ws s f v nothing (λ e. omega (arith, e)))

-- the words before it are enough
pub key-take : (P : Pack) → Good P → (ws : List ℕ) (s t : ℕ) → t < length P.steps → t ≤ s → key_of P (take s ws) t ≡ key_of P ws t
key-take P G ws s t h l = key-same P G (take s ws) ws t h (λ f b. get_or-take s ws f nothing (omega arith))

-- a rule's step has at most 16 refs
pub refs_few : (P : Pack) → Good P → (s : ℕ) → s < length P.steps → length (step_of P s).refs ≤ 16
refs_few P G s h = let g = G.steps s h in omega (arith, g.refs, (G.rules (step_of P s).rule g.rule).arity)
