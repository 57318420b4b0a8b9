-- The first step of a class: it is a needed step with the class's key, and if it is not cut, the classes of its refs are made before.
use Rattle.std.specs.Prelude.{◌≡◌, true, false, List, [], ◌∷◌, map, ℕ, ◌<◌, length, get_or}
use Rattle.std.proofs.Common.{sym, ap, ◌∙◌, arith}
use Rattle.std.proofs.lemmas.List.{length-map}
use Rattle.definition.specs.Test.{is, see, never}
use Rattle.definition.specs.Pack.{Pack, rule_of, step_of}
use Rattle.definition.specs.Certificate.{count}
use Rattle.definition.specs.Good.{Below, Good}
use Rattle.definition.proofs.Laws.Grow.{below_more}
use Rattle.definition.specs.Store.{nothing}
use Rattle.definition.specs.Keys.{cut_key, rule_key, no_keyed, first_of, predicate_of, is_a_cut, key_of, needed, keyed}
use Rattle.definition.specs.Classes.{Built, make_cut, make_rule, make_class}
use Rattle.theory.specs.Keys.Needed.{Among, among_here, among_there, first-earlier}
use Rattle.theory.specs.Keys.Keyed.{firsts-below}
use Rattle.theory.specs.Keys.KeyedLaws.{keyed-kept}
use Rattle.theory.specs.Classes.Steps.{refs-needed}
use Rattle.theory.specs.Classes.FirstStep.{class_before}
use Rattle.theory.specs.Classes.Premises.{Made}

-- the first step of a class
abbrev pub first_step_of : Pack → ℕ → ℕ
first_step_of P c = (get_or (keyed P).classes c no_keyed).first

-- the classes of these refs
abbrev pub classes_of : Pack → List ℕ → List ℕ
classes_of P refs = map (λ r. get_or (keyed P).words (first_of P r) 0) refs

-- ---- keys
module _ (P : Pack) (words : List ℕ) (s : ℕ) where
  -- a cut step's key is its predicate's, another's is its rule's with its refs' classes
  pub key-cut : is_a_cut P (predicate_of P s) ≡ true → key_of P words s ≡ cut_key (predicate_of P s)
  unfolding key_of
  key-cut c = rw (c, key_of)

  pub key-rule : is_a_cut P (predicate_of P s) ≡ false → key_of P words s ≡ rule_key (step_of P s).rule (map (λ r. get_or words (first_of P r) nothing) (step_of P s).refs)
  unfolding key_of
  key-rule c = rw (c, key_of)

  -- and back
  pub cut-key : (p : ℕ) → key_of P words s ≡ cut_key p → (is_a_cut P (predicate_of P s) ≡ true) × (p ≡ predicate_of P s)
  cut-key p e = elim (see (is_a_cut P (predicate_of P s))) [
    | is true c ↦ let q : cut_key (predicate_of P s) ≡ cut_key p = sym (key-cut c) ∙ e in (c, cc)
    | is false c ↦ never (let q : rule_key (step_of P s).rule (map (λ r. get_or words (first_of P r) nothing) (step_of P s).refs) ≡ cut_key p = sym (key-rule c) ∙ e in cc)
  ]

  pub rule-key : (r : ℕ) (cs : List ℕ) → key_of P words s ≡ rule_key r cs → (is_a_cut P (predicate_of P s) ≡ false) × (r ≡ (step_of P s).rule) × (cs ≡ map (λ q. get_or words (first_of P q) nothing) (step_of P s).refs)
  rule-key r cs e = elim (see (is_a_cut P (predicate_of P s))) [
    | is true c ↦ never (let q : cut_key (predicate_of P s) ≡ rule_key r cs = sym (key-cut c) ∙ e in cc)
    | is false c ↦ let q : rule_key (step_of P s).rule (map (λ z. get_or words (first_of P z) nothing) (step_of P s).refs) ≡ rule_key r cs = sym (key-rule c) ∙ e in (c, cc, cc)
  ]

-- ---- a class's first step
module _ (P : Pack) (G : Good P) (c : ℕ) (h : c < length (keyed P).classes) where
  -- it is a step, needed, and of the class
  pub first-given : first_step_of P c < length P.steps
  first-given = let K = keyed-kept P G in omega (arith, (K.0.begun c h).0, K.1)

  pub first-needed : Among (first_step_of P c) (needed P)
  first-needed = ((keyed-kept P G).0.begun c h).1

  pub first_class : get_or (keyed P).words (first_step_of P c) 0 ≡ c
  first_class = ((keyed-kept P G).0.begun c h).2

  -- the class has its key
  pub first_key : (get_or (keyed P).classes c no_keyed).key ≡ key_of P (keyed P).words (first_step_of P c)
  first_key =
      let K = keyed-kept P G in
      let b = K.0.begun c h in
      ap (λ (i : ℕ). (get_or (keyed P).classes i no_keyed).key) (sym b.2) ∙ (K.0.classed (first_step_of P c) b.0 b.1).1

  -- a cut one by its predicate, another by its rule
  pub first-cut : is_a_cut P (predicate_of P (first_step_of P c)) ≡ true → (get_or (keyed P).classes c no_keyed).key ≡ cut_key (predicate_of P (first_step_of P c))
  first-cut e = first_key ∙ key-cut P (keyed P).words (first_step_of P c) e

  pub first-rule : is_a_cut P (predicate_of P (first_step_of P c)) ≡ false
      → (get_or (keyed P).classes c no_keyed).key ≡ rule_key (step_of P (first_step_of P c)).rule (map (λ r. get_or (keyed P).words (first_of P r) nothing) (step_of P (first_step_of P c)).refs)
  first-rule e = first_key ∙ key-rule P (keyed P).words (first_step_of P c) e

  -- and so it is made
  pub cut-made : is_a_cut P (predicate_of P (first_step_of P c)) ≡ true → (words : List ℕ) (b : Built) → make_class P words (get_or (keyed P).classes c no_keyed) b ≡ make_cut P (predicate_of P (first_step_of P c)) b
  unfolding make_class
  cut-made e words b = rw (first-cut e, make_class)

  pub rule-made : is_a_cut P (predicate_of P (first_step_of P c)) ≡ false → (words : List ℕ) (b : Built) → make_class P words (get_or (keyed P).classes c no_keyed) b ≡ make_rule P (first_step_of P c) words b
  unfolding make_class
  rule-made e words b = rw (first-rule e, make_class)

  -- ---- the refs of one that is not cut
  refs-before : (refs : List ℕ) → Below (first_step_of P c) refs → ((r : ℕ) → Among r (map (first_of P) refs) → Among r (needed P)) → Below c (classes_of P refs)
  refs-before [] b n = tt
  refs-before (q ∷ refs) b n =
      let f = first_of P q in
      let early : f < first_step_of P c = omega (arith, first-earlier P q (omega (arith, b.0, first-given)), b.0) in
      (class_before P G c h f early (n f (among_here f (map (first_of P) refs))), refs-before refs b.1 (λ r a. n r (among_there r f (map (first_of P) refs) a)))

  -- their classes are made first
  pub refs-made : is_a_cut P (predicate_of P (first_step_of P c)) ≡ false → Below c (classes_of P (step_of P (first_step_of P c)).refs)
  refs-made e = refs-before (step_of P (first_step_of P c)).refs (G.steps (first_step_of P c) first-given).earlier (refs-needed P G (first_step_of P c) first-needed e)

  made_of : (b : Built) → length b.classes ≡ c → (refs : List ℕ) → Below c (classes_of P refs) → Made (keyed P).words b (map (first_of P) refs)
  made_of b e [] w = tt
  made_of b e (q ∷ refs) w = (omega (arith, w.0), made_of b e refs w.1)

  pub first_made : is_a_cut P (predicate_of P (first_step_of P c)) ≡ false → (b : Built) → length b.classes ≡ c → Made (keyed P).words b (map (first_of P) (step_of P (first_step_of P c)).refs)
  first_made n b e = made_of b e (step_of P (first_step_of P c)).refs (refs-made n)

-- ---- what a good step's numbers are below
-- its predicate is a symbol
pub predicate_given : (P : Pack) → Good P → (s : ℕ) → s < length P.steps → predicate_of P s < length P.symbols
unfolding predicate_of
predicate_given P G s l = (G.nodes (step_of P s).judgment (G.steps s l).judgment.given).head

-- its refs' first steps are steps
pub firsts-given : (P : Pack) → Good P → (s : ℕ) → s < length P.steps → Below (length P.steps) (map (first_of P) (step_of P s).refs)
firsts-given P G s l = below_more s (length P.steps) (map (first_of P) (step_of P s).refs) (omega arith) (firsts-below P s (step_of P s).refs (omega arith) (G.steps s l).earlier)

-- steps' judgments are ground nodes
pub judgments-given : (P : Pack) → Good P → (ss : List ℕ) → Below (length P.steps) ss → Below (length P.nodes) (map (λ r. (step_of P r).judgment) ss)
judgments-given P G [] b = tt
judgments-given P G (s ∷ ss) b = ((G.steps s b.0).judgment.given, judgments-given P G ss b.1)

-- it has a ref for each premise of its rule
pub firsts-length : (P : Pack) → Good P → (s : ℕ) → s < length P.steps → length (map (first_of P) (step_of P s).refs) ≡ count (rule_of P (step_of P s).rule).premises
firsts-length P G s l = length-map (step_of P s).refs (first_of P) ∙ (G.steps s l).refs
