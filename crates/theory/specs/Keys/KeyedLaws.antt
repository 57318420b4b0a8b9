-- What `keyed` gives: each needed step the class of its key, classes with keys apart, begun by needed steps, counts that add up.
use Rattle.std.specs.Prelude.{◌≡◌, eqb, get_or, set}
use Rattle.std.proofs.Math.Path.{refl, sym, ap}
use Rattle.std.proofs.Common.{◌∙◌, subst, arith, eqb-true, length-set, get_or-set_same, get_or-set_other}
use Rattle.std.proofs.Math.Bool.{true, false}
use mathlib.Core.List.{List, [], ◌∷◌, ◌++◌, map}
use Rattle.std.proofs.Math.Option.{none, some}
use Prim.Native.Nat.{ℕ, zero, suc, ◌+◌, ◌<◌, ◌≤◌}
use Rattle.std.proofs.lemmas.Bool.{eqb-false}
use Rattle.std.proofs.Math.ListN.{length, get_or-append}
use Rattle.std.proofs.lemmas.List.{get_or_at}
use Rattle.definition.specs.Test.{is, see, never, tests, any}
use Rattle.definition.specs.Pack.{Pack, step_of}
use Rattle.definition.specs.Good.{Good}
use Rattle.definition.proofs.Laws.Grow.{below_more, length_more}
use Rattle.definition.specs.Store.{nothing}
use Rattle.definition.specs.Graph.{up_to}
use Rattle.definition.specs.Classes.{count_of}
use Rattle.definition.specs.Keys.{first_of, Keyed, no_keyed, class_in, Keys, key_of, one_more_of, key_step, key_steps, needed, keyed}
use Rattle.theory.specs.Keys.Needed.{Among}
use Rattle.theory.specs.Keys.Keyed.{class_found, class_none, key-kept, refs-below, counted, counted-more, counted-set, count-append}

-- what holds of the steps that have their words
pub record Kept (P : Pack) (wanted : List ℕ) (k : Keys) : Type 0 where
  -- a needed step has the class of its key
  pub classed : (s : ℕ) → s < length k.words → Among s wanted
      → (get_or k.words s 0 < length k.classes) × ((get_or k.classes (get_or k.words s 0) no_keyed).key ≡ key_of P k.words s)
  -- "2^32−1 if unneeded"
  pub unneeded : (s : ℕ) → s < length k.words → any (eqb s) wanted ≡ false → get_or k.words s 0 ≡ nothing
  -- no two classes have one key
  pub apart : (c d : ℕ) → c < length k.classes → d < length k.classes → (get_or k.classes c no_keyed).key ≡ (get_or k.classes d no_keyed).key → c ≡ d
  -- a class begins with a needed step of its own
  pub begun : (c : ℕ) → c < length k.classes
      → ((get_or k.classes c no_keyed).first < length k.words) × Among (get_or k.classes c no_keyed).first wanted × (get_or k.words (get_or k.classes c no_keyed).first 0 ≡ c)
  -- a step is no earlier than the first of its class, and classes are numbered in the order of their first steps
  pub later : (s : ℕ) → s < length k.words → Among s wanted → (get_or k.classes (get_or k.words s 0) no_keyed).first ≤ s
  pub ordered : (c d : ℕ) → c < d → d < length k.classes → (get_or k.classes c no_keyed).first < (get_or k.classes d no_keyed).first
  -- "Instance counts sum to `steps`"
  pub summed : counted k.classes ≡ count_of (λ s. any (eqb s) wanted) (up_to (length k.words))

-- a list with one more, read at an earlier place and at the last
old-word : (ws : List ℕ) (c s : ℕ) → s < length ws → get_or (ws ++ (c ∷ [])) s 0 ≡ get_or ws s 0
old-word ws c s h = get_or-append ws (c ∷ []) 0 s h

new_word : (ws : List ℕ) (c : ℕ) → get_or (ws ++ (c ∷ [])) (length ws) 0 ≡ c
new_word ws c = get_or_at ws c [] 0 (length ws) refl

-- the key of a class stays when it is counted up
key_set : (xs : List Keyed) (c d : ℕ) → c < length xs → (get_or (set xs c (one_more_of (get_or xs c no_keyed))) d no_keyed).key ≡ (get_or xs d no_keyed).key
key_set xs c d h = elim (see (eqb d c)) [
  | is true p ↦
      let e = eqb-true d c p in
      ap (λ (i : ℕ). (get_or (set xs c (one_more_of (get_or xs c no_keyed))) i no_keyed).key) e ∙ ap (λ (x : Keyed). x.key) (get_or-set_same xs c (one_more_of (get_or xs c no_keyed)) no_keyed h) ∙ ap (λ (i : ℕ). (get_or xs i no_keyed).key) (sym e)
  | is false p ↦ ap (λ (x : Keyed). x.key) (get_or-set_other xs c d (one_more_of (get_or xs c no_keyed)) no_keyed (eqb-false d c p))
]

-- and so does its first step
pub first-set : (xs : List Keyed) (c d : ℕ) → c < length xs → (get_or (set xs c (one_more_of (get_or xs c no_keyed))) d no_keyed).first ≡ (get_or xs d no_keyed).first
first-set xs c d h = elim (see (eqb d c)) [
  | is true p ↦
      let e = eqb-true d c p in
      ap (λ (i : ℕ). (get_or (set xs c (one_more_of (get_or xs c no_keyed))) i no_keyed).first) e ∙ ap (λ (x : Keyed). x.first) (get_or-set_same xs c (one_more_of (get_or xs c no_keyed)) no_keyed h) ∙ ap (λ (i : ℕ). (get_or xs i no_keyed).first) (sym e)
  | is false p ↦ ap (λ (x : Keyed). x.first) (get_or-set_other xs c d (one_more_of (get_or xs c no_keyed)) no_keyed (eqb-false d c p))
]

-- one more among the first n, and none more
pub count_in_law : (wanted : List ℕ) (n : ℕ) → Among n wanted → count_of (λ s. any (eqb s) wanted) (up_to (suc n)) ≡ suc (count_of (λ s. any (eqb s) wanted) (up_to n))
unfolding up_to count_of
count_in_law wanted n h = count-append (λ s. any (eqb s) wanted) (up_to n) (n ∷ []) ∙ rw (h, count_of) (omega arith)

pub count_out : (wanted : List ℕ) (n : ℕ) → any (eqb n) wanted ≡ false → count_of (λ s. any (eqb s) wanted) (up_to (suc n)) ≡ count_of (λ s. any (eqb s) wanted) (up_to n)
unfolding up_to count_of
count_out wanted n h = count-append (λ s. any (eqb s) wanted) (up_to n) (n ∷ []) ∙ rw (h, count_of) (omega arith)

-- steps, and then more of them
pub steps_then : (P : Pack) (wanted xs ys : List ℕ) (k : Keys) → key_steps P wanted (xs ++ ys) k ≡ key_steps P wanted ys (key_steps P wanted xs k)
unfolding key_steps
steps_then P wanted [] ys k = refl
steps_then P wanted (x ∷ xs) ys k = elim (see (any (eqb x) wanted)) [
  | is true p ↦ rw (p, key_steps) (steps_then P wanted xs ys (key_step P x k))
  | is false p ↦ rw (p, key_steps) (steps_then P wanted xs ys (record { words = k.words ++ (nothing ∷ []); classes = k.classes }))
]

module _ (P : Pack) (G : Good P) (wanted : List ℕ) where
  -- an earlier step's key is the same with one word more
  key_then : (ws : List ℕ) (c s : ℕ) → s ≤ length ws → s < length P.steps → key_of P (ws ++ (c ∷ [])) s ≡ key_of P ws s
  key_then ws c s h l = key-kept P ws (c ∷ []) s (below_more s (length ws) (map (first_of P) (step_of P s).refs) h (refs-below P G s l))

  -- an unneeded step
  kept_out : (k : Keys) → Kept P wanted k → length k.words < length P.steps → any (eqb (length k.words)) wanted ≡ false
      → Kept P wanted (record { words = k.words ++ (nothing ∷ []); classes = k.classes })
  kept_out k K l w =
      let ws = k.words in
      let n = length_more ws nothing in
      record {
        classed = λ s h a. elim (see (eqb s (length ws))) [
          | is true p ↦ never (let e = eqb-true s (length ws) p in let z : true ≡ false = sym a ∙ ap (λ (i : ℕ). any (eqb i) wanted) e ∙ w in cc)
          | is false p ↦
              let o : s < length ws = omega tests in
              let c = K.classed s o a in
              let e = old-word ws nothing s o in
              (rw e c.0, rw e (c.1 ∙ sym (key_then ws nothing s (omega arith) (omega arith))))
        ];
        unneeded = λ s h a. elim (see (eqb s (length ws))) [
          | is true p ↦ let e = eqb-true s (length ws) p in ap (λ (i : ℕ). get_or (ws ++ (nothing ∷ [])) i 0) e ∙ new_word ws nothing
          | is false p ↦ let o : s < length ws = omega tests in old-word ws nothing s o ∙ K.unneeded s o a
        ];
        apart = K.apart;
        begun = λ c h. let b = K.begun c h in (omega (arith, b.0), b.1, old-word ws nothing (get_or k.classes c no_keyed).first b.0 ∙ b.2);
        later = λ s h a. elim (see (eqb s (length ws))) [
          | is true p ↦ never (let e = eqb-true s (length ws) p in let z : true ≡ false = sym a ∙ ap (λ (i : ℕ). any (eqb i) wanted) e ∙ w in cc)
          | is false p ↦ let o : s < length ws = omega tests in rw (old-word ws nothing s o) (K.later s o a)
        ];
        ordered = K.ordered;
        summed = K.summed ∙ sym (ap (λ (i : ℕ). count_of (λ s. any (eqb s) wanted) (up_to i)) n ∙ count_out wanted (length ws) w);
      }

  -- a needed step of a class that is there
  kept-old : (k : Keys) → Kept P wanted k → length k.words < length P.steps → Among (length k.words) wanted → (c : ℕ) → c < length k.classes
      → (get_or k.classes c no_keyed).key ≡ key_of P k.words (length k.words)
      → Kept P wanted (record { words = k.words ++ (c ∷ []); classes = set k.classes c (one_more_of (get_or k.classes c no_keyed)) })
  kept-old k K l w c h q =
      let ws = k.words in
      let xs = k.classes in
      let ys = set xs c (one_more_of (get_or xs c no_keyed)) in
      let n = length_more ws c in
      let m : length ys ≡ length xs = length-set xs c (one_more_of (get_or xs c no_keyed)) in
      record {
        classed = λ s o a. elim (see (eqb s (length ws))) [
          | is true p ↦
              let e = eqb-true s (length ws) p in
              let v : get_or (ws ++ (c ∷ [])) s 0 ≡ c = ap (λ (i : ℕ). get_or (ws ++ (c ∷ [])) i 0) e ∙ new_word ws c in
              (omega arith, ap (λ (i : ℕ). (get_or ys i no_keyed).key) v ∙ key_set xs c c h ∙ q ∙ sym (key_then ws c (length ws) (omega arith) l) ∙ ap (key_of P (ws ++ (c ∷ []))) (sym e))
          | is false p ↦
              let o2 : s < length ws = omega tests in
              let d = K.classed s o2 a in
              let e = old-word ws c s o2 in
              (omega (arith, d.0), ap (λ (i : ℕ). (get_or ys i no_keyed).key) e ∙ key_set xs c (get_or ws s 0) h ∙ d.1 ∙ sym (key_then ws c s (omega arith) (omega arith)))
        ];
        unneeded = λ s o a. elim (see (eqb s (length ws))) [
          | is true p ↦ never (let e = eqb-true s (length ws) p in let z : true ≡ false = sym w ∙ ap (λ (i : ℕ). any (eqb i) wanted) (sym e) ∙ a in cc)
          | is false p ↦ let o2 : s < length ws = omega tests in old-word ws c s o2 ∙ K.unneeded s o2 a
        ];
        apart = λ i j a b e. K.apart i j (omega arith) (omega arith) (sym (key_set xs c i h) ∙ e ∙ key_set xs c j h);
        begun = λ d o.
            let b = K.begun d (omega arith) in
            let f = first-set xs c d h in
            rw f (omega (arith, b.0), b.1, old-word ws c (get_or xs d no_keyed).first b.0 ∙ b.2);
        later = λ s o a. elim (see (eqb s (length ws))) [
          | is true p ↦
              let e = eqb-true s (length ws) p in
              let v : get_or (ws ++ (c ∷ [])) s 0 ≡ c = ap (λ (i : ℕ). get_or (ws ++ (c ∷ [])) i 0) e ∙ new_word ws c in
              let f = first-set xs c c h in
              let b = K.begun c h in
              rw (v, f) (omega (arith, b.0))
          | is false p ↦
              let o2 : s < length ws = omega tests in
              rw (old-word ws c s o2, first-set xs c (get_or ws s 0) h) (K.later s o2 a)
        ];
        ordered = λ d e l o. rw (first-set xs c d h, first-set xs c e h) (K.ordered d e l (omega arith));
        summed = counted-set xs c h ∙ ap suc K.summed ∙ sym (ap (λ (i : ℕ). count_of (λ s. any (eqb s) wanted) (up_to i)) n ∙ count_in_law wanted (length ws) w);
      }

  -- a needed step that begins a class
  kept_new : (k : Keys) → Kept P wanted k → length k.words < length P.steps → Among (length k.words) wanted
      → ((c : ℕ) → c < length k.classes → (get_or k.classes c no_keyed).key ≡ key_of P k.words (length k.words) → ⊥)
      → Kept P wanted (record { words = k.words ++ (length k.classes ∷ []); classes = k.classes ++ (record { key = key_of P k.words (length k.words); first = length k.words; count = 1 } ∷ []) })
  kept_new k K l w new =
      let ws = k.words in
      let xs = k.classes in
      let key = key_of P ws (length ws) in
      let x : Keyed = record { key = key; first = length ws; count = 1 } in
      let c = length xs in
      let n = length_more ws c in
      let m = length_more xs x in
      let old : (d : ℕ) → d < c → get_or (xs ++ (x ∷ [])) d no_keyed ≡ get_or xs d no_keyed = λ d h. get_or-append xs (x ∷ []) no_keyed d h in
      let last : get_or (xs ++ (x ∷ [])) c no_keyed ≡ x = get_or_at xs x [] no_keyed c refl in
      record {
        classed = λ s o a. elim (see (eqb s (length ws))) [
          | is true p ↦
              let e = eqb-true s (length ws) p in
              let v : get_or (ws ++ (c ∷ [])) s 0 ≡ c = ap (λ (i : ℕ). get_or (ws ++ (c ∷ [])) i 0) e ∙ new_word ws c in
              (omega arith, ap (λ (i : ℕ). (get_or (xs ++ (x ∷ [])) i no_keyed).key) v ∙ ap (λ (y : Keyed). y.key) last ∙ sym (key_then ws c (length ws) (omega arith) l) ∙ ap (key_of P (ws ++ (c ∷ []))) (sym e))
          | is false p ↦
              let o2 : s < length ws = omega tests in
              let d = K.classed s o2 a in
              let e = old-word ws c s o2 in
              (omega (arith, d.0), ap (λ (i : ℕ). (get_or (xs ++ (x ∷ [])) i no_keyed).key) e ∙ ap (λ (y : Keyed). y.key) (old (get_or ws s 0) d.0) ∙ d.1 ∙ sym (key_then ws c s (omega arith) (omega arith)))
        ];
        unneeded = λ s o a. elim (see (eqb s (length ws))) [
          | is true p ↦ never (let e = eqb-true s (length ws) p in let z : true ≡ false = sym w ∙ ap (λ (i : ℕ). any (eqb i) wanted) (sym e) ∙ a in cc)
          | is false p ↦ let o2 : s < length ws = omega tests in old-word ws c s o2 ∙ K.unneeded s o2 a
        ];
        apart = λ i j a b e. elim (see (eqb i c)) [
          | is true p ↦ elim (see (eqb j c)) [
            | is true q ↦ omega tests
            | is false q ↦
                let d : j < c = omega tests in
                let i2 = eqb-true i c p in
                absurd (new j d (ap (λ (y : Keyed). y.key) (sym (old j d)) ∙ sym e ∙ ap (λ (z : ℕ). (get_or (xs ++ (x ∷ [])) z no_keyed).key) i2 ∙ ap (λ (y : Keyed). y.key) last))
          ]
          | is false p ↦ elim (see (eqb j c)) [
            | is true q ↦
                let d : i < c = omega tests in
                let j2 = eqb-true j c q in
                absurd (new i d (ap (λ (y : Keyed). y.key) (sym (old i d)) ∙ e ∙ ap (λ (z : ℕ). (get_or (xs ++ (x ∷ [])) z no_keyed).key) j2 ∙ ap (λ (y : Keyed). y.key) last))
            | is false q ↦
                let d : i < c = omega tests in
                let f : j < c = omega tests in
                K.apart i j d f (ap (λ (y : Keyed). y.key) (sym (old i d)) ∙ e ∙ ap (λ (y : Keyed). y.key) (old j f))
          ]
        ];
        begun = λ d o. elim (see (eqb d c)) [
          | is true p ↦
              let e = eqb-true d c p in
              let f : get_or (xs ++ (x ∷ [])) d no_keyed ≡ x = ap (λ (z : ℕ). get_or (xs ++ (x ∷ [])) z no_keyed) e ∙ last in
              rw f (omega arith, w, new_word ws c ∙ sym e)
          | is false p ↦
              let h : d < c = omega tests in
              let b = K.begun d h in
              rw (old d h) (omega (arith, b.0), b.1, old-word ws c (get_or xs d no_keyed).first b.0 ∙ b.2)
        ];
        later = λ s o a. elim (see (eqb s (length ws))) [
          | is true p ↦
              let e = eqb-true s (length ws) p in
              let v : get_or (ws ++ (c ∷ [])) s 0 ≡ c = ap (λ (i : ℕ). get_or (ws ++ (c ∷ [])) i 0) e ∙ new_word ws c in
              rw (v, last) (omega arith)
          | is false p ↦
              let o2 : s < length ws = omega tests in
              let b = K.classed s o2 a in
              rw (old-word ws c s o2, old (get_or ws s 0) b.0) (K.later s o2 a)
        ];
        ordered = λ d e l o. elim (see (eqb e c)) [
          | is true p ↦
              let i = eqb-true e c p in
              let b = K.begun d (omega arith) in
              let f : get_or (xs ++ (x ∷ [])) e no_keyed ≡ x = ap (λ (z : ℕ). get_or (xs ++ (x ∷ [])) z no_keyed) i ∙ last in
              rw (old d (omega arith), f) b.0
          | is false p ↦ let u : e < c = omega tests in rw (old d (omega arith), old e u) (K.ordered d e l u)
        ];
        summed = counted-more xs x ∙ ap (λ (i : ℕ). i + 1) K.summed ∙ omega (arith, ap (λ (i : ℕ). count_of (λ s. any (eqb s) wanted) (up_to i)) n, count_in_law wanted (length ws) w);
      }

  -- one step more
  kept_step : (k : Keys) → Kept P wanted k → length k.words < length P.steps → Kept P wanted (key_steps P wanted (length k.words ∷ []) k)
  unfolding key_steps key_step
  kept_step k K l = elim (see (any (eqb (length k.words)) wanted)) [
    | is false w ↦ rw (w, key_steps) (kept_out k K l w)
    | is true w ↦ elim (see (class_in (key_of P k.words (length k.words)) k.classes 0)) [
      | is (some c) p ↦
          let f = class_found (key_of P k.words (length k.words)) k.classes 0 c p in
          let e : f.0 ≡ c = omega (arith, f.1) in
          rw (w, key_steps, p, key_step) (kept-old k K l w c (omega (arith, f.2, e)) (ap (λ (i : ℕ). (get_or k.classes i no_keyed).key) (sym e) ∙ f.3))
      | is none p ↦ rw (w, key_steps, p, key_step) (kept_new k K l w (λ c h q. class_none (key_of P k.words (length k.words)) k.classes 0 c p h q))
    ]
  ]

  -- a step adds one word
  step-word : (k : Keys) (s : ℕ) → length (key_steps P wanted (s ∷ []) k).words ≡ suc (length k.words)
  unfolding key_steps key_step
  step-word k s = elim (see (any (eqb s) wanted)) [
    | is false w ↦ rw (w, key_steps) (length_more k.words nothing)
    | is true w ↦ elim (see (class_in (key_of P k.words s) k.classes 0)) [
      | is (some c) p ↦ rw (w, key_steps, p, key_step) (length_more k.words c)
      | is none p ↦ rw (w, key_steps, p, key_step) (length_more k.words (length k.classes))
    ]
  ]

  -- the first n steps
  pub kept_up_to : (n : ℕ) → n ≤ length P.steps
      → Kept P wanted (key_steps P wanted (up_to n) (record { words = []; classes = [] })) × (length (key_steps P wanted (up_to n) (record { words = []; classes = [] })).words ≡ n)
  unfolding up_to key_steps counted count_of
  kept_up_to zero h =
      (record { classed = λ s l a. absurd (omega arith); unneeded = λ s l a. absurd (omega arith); apart = λ c d l m e. absurd (omega arith); begun = λ c l. absurd (omega arith); later = λ s l a. absurd (omega arith); ordered = λ c d l m. absurd (omega arith); summed = refl }, refl)
  kept_up_to (suc n) h =
      let k = key_steps P wanted (up_to n) (record { words = []; classes = [] }) in
      let K = kept_up_to n (omega arith) in
      let e = steps_then P wanted (up_to n) (n ∷ []) (record { words = []; classes = [] }) in
      let S = kept_step k K.0 (omega (arith, K.1)) in
      let one = ap (λ (i : ℕ). key_steps P wanted (i ∷ []) k) K.1 in
      (subst (Kept P wanted) (one ∙ sym e) S, ap (λ (q : Keys). length q.words) e ∙ step-word k n ∙ ap suc K.1)

-- all steps
pub keyed-kept : (P : Pack) → Good P → Kept P (needed P) (keyed P) × (length (keyed P).words ≡ length P.steps)
unfolding keyed
keyed-kept P G = kept_up_to P G (needed P) (length P.steps) (omega arith)

-- "the same for two needed steps just when their keys, or their cut predicates, are equal"
pub same_class : (P : Pack) → Good P → (s t : ℕ) → s < length P.steps → t < length P.steps → Among s (needed P) → Among t (needed P)
    → (get_or (keyed P).words s 0 ≡ get_or (keyed P).words t 0 → key_of P (keyed P).words s ≡ key_of P (keyed P).words t)
    × (key_of P (keyed P).words s ≡ key_of P (keyed P).words t → get_or (keyed P).words s 0 ≡ get_or (keyed P).words t 0)
same_class P G s t hs ht ns nt =
    let K = keyed-kept P G in
    let a = K.0.classed s (omega (arith, K.1)) ns in
    let b = K.0.classed t (omega (arith, K.1)) nt in (
      λ e. sym a.1 ∙ ap (λ (c : ℕ). (get_or (keyed P).classes c no_keyed).key) e ∙ b.1,
      λ e. K.0.apart (get_or (keyed P).words s 0) (get_or (keyed P).words t 0) a.0 b.0 (a.1 ∙ e ∙ sym b.1),
    )
