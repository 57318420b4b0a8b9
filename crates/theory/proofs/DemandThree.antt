-- Demand 3 holds of what the definition's class call answers.
use Rattle.std.specs.Prelude.{◌≡◌, refl, true, false, ltb}
use Rattle.std.proofs.Common.{sym, ◌∙◌, subst, arith, ltb-false}
use Rattle.std.proofs.Math.Path.{ap, ap₂}
use mathlib.Core.List.{List, [], ◌∷◌, ◌++◌, map, append_assoc}
use Rattle.std.proofs.Math.Option.{none, some}
use Prim.Native.Nat.{ℕ, zero, suc, ◌-◌, ◌<◌, ◌≤◌}
use Rattle.std.proofs.Math.ListN.{length, get_or, drop, replicate, length-append, get_or-append}
use Rattle.std.proofs.lemmas.List.{length-map}
use Rattle.std.proofs.Math.Seq.{drop-append_seam}
use Rattle.definition.specs.Test.{is, see, never}
use Rattle.definition.specs.Pack.{Node, Pack, step_of}
use Rattle.definition.specs.Tree.{Tree, Trees, tree_of}
use Rattle.definition.specs.Frame.{fine}
use Rattle.definition.specs.Parse.{parse}
use Rattle.definition.specs.Encode.{put, put_record_of, put_all, sort_body, symbol_body, rule_body, node_body, step_body, goal_body, result_body, cut_body, abstract_body, encode}
use Rattle.definition.specs.Verdict.{Accepted}
use Rattle.definition.specs.Good.{Below, Good}
use Rattle.definition.proofs.Laws.Good.{parsed_good, parsed_once, parsed_few}
use Rattle.definition.proofs.Laws.Run.{enough_done}
use Rattle.definition.proofs.Laws.Put.{Bytes}
use Rattle.definition.proofs.Laws.Encode.{encode_parsed}
use Rattle.definition.proofs.Laws.Grow.{below_more}
use Rattle.definition.proofs.Laws.Store.{nodes-back, length-pattern_words}
use Rattle.definition.specs.Store.{nothing, pattern_words, nodes_in}
use Rattle.definition.specs.Answer.{Lent, answer, lengths, padded, most_cells}
use Rattle.definition.specs.Shown.{shown_text}
use Rattle.definition.specs.Run.{Note, Run, done, behind, ◌>>=◌, outcome}
use Rattle.definition.specs.Keys.{first_of, predicate_of, is_a_cut, rule_key, key_of, Keyed, no_keyed, keyed}
use Rattle.definition.specs.Classes.{Class, no_class, Built, mark, row_words, class_words}
use Rattle.definition.specs.Figures.{figures}
use Rattle.definition.specs.Calls.{Classed, Shown, class_run, show_run, classes_lent, show_lent, called, Left, answered, cert_classes, cert_show}
use Rattle.definition.specs.declared.Refusal.TheVariants.{Limit}
use Rattle.theory.specs.Derive.{InstanceOf, Derivation, leaf, by, Derivations, none as no-derivations, more, Shape, Shapes}
use Rattle.theory.specs.Keys.Needed.{first-earlier}
use Rattle.theory.specs.Keys.KeyedLaws.{keyed-kept, same_class}
use Rattle.theory.specs.Patterns.Interned.{Grows, with}
use Rattle.theory.specs.Patterns.Sorted.{sorted_inside}
use Rattle.theory.specs.Patterns.Instances.{instance_grows, instance_before}
use Rattle.theory.specs.Classes.Steps.{Concludes, step_derived}
use Rattle.theory.specs.Classes.Built.{BuiltGood}
use Rattle.theory.specs.Classes.RuleClass.{rule-made}
use Rattle.theory.specs.Classes.GoalsMet.{never_stops}
use Rattle.theory.specs.Principal.{patterns_in, row_in, conclusion_in, Principal, DemandThree, DemandThreeShown}

-- so they begin what is read from the buffer
patterns_begin : (n : ℕ) (s : List Node) → Grows s (patterns_in (padded n (pattern_words s)))
unfolding patterns_in padded
patterns_begin n s =
    let zs : List ℕ = replicate (n - length (pattern_words s)) 0 in
    let l = length-append (pattern_words s) zs in
    let m = length-pattern_words s in
    with (nodes_in (length (pattern_words s ++ zs) - length s) zs) (nodes-back (length (pattern_words s ++ zs)) s zs (omega arith))

-- a class's row is found behind the others, whatever stands behind them all
row_back : (cs : List Class) (ks : List Keyed) (zs : List ℕ) (c : ℕ) → length cs ≡ length ks → c < length cs → get_or (row_in (row_words cs ks ++ zs) c) 0 0 ≡ (get_or cs c no_class).conclusion
unfolding row_in row_words
row_back [] ks zs c e h = absurd (omega arith)
row_back (x ∷ cs) [] zs c e h = absurd (omega arith)
row_back (x ∷ cs) (k ∷ ks) zs zero e h = refl
row_back (x ∷ cs) (k ∷ ks) zs (suc c) e h =
    let marks = map mark x.flex in
    let l : length x.flex ≡ length marks = sym (length-map x.flex mark) in
    let a = append_assoc marks (row_words cs ks) zs in
    let d : drop (length x.flex) ((marks ++ row_words cs ks) ++ zs) ≡ row_words cs ks ++ zs = ap₂ drop l a ∙ drop-append_seam marks (row_words cs ks ++ zs) in
    let on : row_in (row_words (x ∷ cs) (k ∷ ks) ++ zs) (suc c) ≡ row_in (row_words cs ks ++ zs) c = ap (λ (ws : List ℕ). row_in ws c) d in
    ap (λ (ws : List ℕ). get_or ws 0 0) on ∙ row_back cs ks zs c (omega arith) (omega arith)

-- step words that agree, whatever stands for none
abbrev Agree : Pack → List ℕ → List ℕ → Type 0
Agree P ws vs = (s d : ℕ) → s < length P.steps → get_or ws s d ≡ get_or vs s d

-- the first words are each step's class
module _ (P : Pack) (G : Good P) (b : Built) (n : ℕ) where
  abbrev words : List ℕ
  words = padded n (class_words P b)

  word_back : Agree P (padded n (class_words P b)) (keyed P).words
  unfolding padded class_words
  word_back s d h =
      let K = (keyed-kept P G).1 in
      let rows = row_words b.classes (keyed P).classes in
      let zs : List ℕ = replicate (n - length ((keyed P).words ++ rows)) 0 in
      let l = length-append (keyed P).words rows in
      get_or-append ((keyed P).words ++ rows) zs d s (omega arith) ∙ get_or-append (keyed P).words rows d s (omega arith)

  conclusion-back : length b.classes ≡ length (keyed P).classes → (c : ℕ) → c < length b.classes → conclusion_in P (padded n (class_words P b)) c ≡ (get_or b.classes c no_class).conclusion
  unfolding padded class_words conclusion_in
  conclusion-back e c h =
      let K = (keyed-kept P G).1 in
      let rows = row_words b.classes (keyed P).classes in
      let zs : List ℕ = replicate (n - length ((keyed P).words ++ rows)) 0 in
      let a = append_assoc (keyed P).words rows zs in
      let d : drop (length P.steps) (((keyed P).words ++ rows) ++ zs) ≡ rows ++ zs = ap₂ drop (sym K) a ∙ drop-append_seam (keyed P).words (rows ++ zs) in
      ap (λ (ws : List ℕ). get_or (row_in ws c) 0 0) d ∙ row_back b.classes (keyed P).classes zs c e h

-- the classes of refs by step words that agree
classes_same : (P : Pack) (ws vs : List ℕ) → Agree P ws vs → (d : ℕ) (refs : List ℕ) → Below (length P.steps) refs → map (λ q. get_or ws (first_of P q) d) refs ≡ map (λ q. get_or vs (first_of P q) d) refs
classes_same P ws vs e d [] b = refl
classes_same P ws vs e d (q ∷ refs) b = let f = first-earlier P q b.0 in ap₂ ◌∷◌ (e (first_of P q) d (omega (arith, b.0))) (classes_same P ws vs e d refs b.1)

-- a step's own refs among them
refs-same : (P : Pack) → Good P → (ws vs : List ℕ) → Agree P ws vs → (d s : ℕ) → s < length P.steps → map (λ q. get_or ws (first_of P q) d) (step_of P s).refs ≡ map (λ q. get_or vs (first_of P q) d) (step_of P s).refs
refs-same P G ws vs e d s h = classes_same P ws vs e d (step_of P s).refs (below_more s (length P.steps) (step_of P s).refs (omega arith) (G.steps s h).earlier)

-- keys are the same by step words that agree
key-same : (P : Pack) → Good P → (ws vs : List ℕ) → Agree P ws vs → (s : ℕ) → s < length P.steps → key_of P ws s ≡ key_of P vs s
unfolding key_of
key-same P G ws vs e s h = elim (see (is_a_cut P (predicate_of P s))) [
  | is true p ↦ rw (p, key_of)
  | is false p ↦ rw (p, key_of) (ap (rule_key (step_of P s).rule) (refs-same P G ws vs e nothing s h))
]

-- and so are shapes
mutual
  shape_same : (P : Pack) → Good P → (ws vs : List ℕ) → Agree P ws vs → {j : Tree} (d : Derivation P j) (c : ℕ) → Shape P ws d c → Shape P vs d c
  shape_same P G ws vs e (leaf p ts h u) c Q = (Q.0, record { given = Q.1.given; word = sym (e Q.0 0 Q.1.given) ∙ Q.1.word }, Q.2)
  shape_same P G ws vs e (by r ν l fp fc ep ec ds) c Q =
      let s = Q.0 in
      let m = refs-same P G ws vs e 0 s Q.1.given in
      (s, record { given = Q.1.given; word = sym (e s 0 Q.1.given) ∙ Q.1.word }, Q.2, Q.3, subst (Shapes P vs ds) m (shapes_same P G ws vs e ds (map (λ q. get_or ws (first_of P q) 0) (step_of P s).refs) Q.4))

  shapes_same : (P : Pack) → Good P → (ws vs : List ℕ) → Agree P ws vs → {js : Trees} (ds : Derivations P js) (cs : List ℕ) → Shapes P ws ds cs → Shapes P vs ds cs
  shapes_same P G ws vs e no-derivations [] Q = tt
  shapes_same P G ws vs e no-derivations (c ∷ cs) Q = absurd Q
  shapes_same P G ws vs e (more d ds) [] Q = absurd Q
  shapes_same P G ws vs e (more d ds) (c ∷ cs) Q = (shape_same P G ws vs e d c Q.0, shapes_same P G ws vs e ds cs Q.1)

-- classes that are built as they must be are principal as they are written
built_principal : (P : Pack) → Good P → Accepted P → (b : Built) → BuiltGood P (keyed P).words b → length b.classes ≡ length (keyed P).classes → (n m : ℕ)
    → Principal P (length b.classes) (padded n (class_words P b)) (padded m (pattern_words b.store))
built_principal P G A b B e n m =
    let class = padded n (class_words P b) in
    let store = patterns_in (padded m (pattern_words b.store)) in
    let K = keyed-kept P G in
    let grows = patterns_begin m b.store in
    let at : ℕ → Class = λ c. get_or b.classes c no_class in
    let inside : (c : ℕ) → c < length b.classes → (at c).conclusion < length b.store = λ c h. let X = B.classes c h in sorted_inside P b.store X.sorts (at c).conclusion _ X.sorted in
    let to : (c : ℕ) → c < length b.classes → (j : Tree) → InstanceOf P b.store (at c).conclusion j → InstanceOf P store (conclusion_in P class c) j =
    λ c h j N. subst (λ (p : ℕ). InstanceOf P store p j) (sym (conclusion-back P G b n e c h)) (instance_grows P b.store store (at c).conclusion j B.earlier grows (inside c h) N) in
    let from : (c : ℕ) → c < length b.classes → (j : Tree) → InstanceOf P store (conclusion_in P class c) j → InstanceOf P b.store (at c).conclusion j =
    λ c h j N. instance_before P b.store store (at c).conclusion j B.earlier grows (inside c h) (subst (λ (p : ℕ). InstanceOf P store p j) (conclusion-back P G b n e c h) N) in
    let agree = word_back P G b n in
    let back : Agree P (keyed P).words class = λ s d l. sym (agree s d l) in
    let key : (s : ℕ) → s < length P.steps → key_of P class s ≡ key_of P (keyed P).words s = key-same P G class (keyed P).words agree in
    record {
      held = λ s l h.
          let w = agree s 0 l in
          let c = (K.0.classed s (omega (arith, K.1)) h).0 in
          let i : get_or class s 0 < length b.classes = omega arith in
          let d = subst (λ (k : ℕ). Concludes P (keyed P).words k (tree_of P (step_of P s).judgment)) (sym w) (step_derived P G A s l h) in
          (i, to (get_or class s 0) i (tree_of P (step_of P s).judgment) ((B.classes (get_or class s 0) i).instances (tree_of P (step_of P s).judgment) d));
      wide = λ c h j q d. to c h j ((B.classes c h).instances j (d.0, shape_same P G class (keyed P).words agree d.0 c d.1));
      narrow = λ c h j q N.
          let d = (B.classes c h).derived j (from c h j N) in
          (d.0, shape_same P G (keyed P).words class back d.0 c d.1);
      one = λ s t hs ht ns nt e. agree s 0 hs ∙ (same_class P G s t hs ht ns nt).1 (sym (key s hs) ∙ e ∙ key t ht) ∙ back t 0 ht;
      apart = λ s t hs ht ns nt e. key s hs ∙ (same_class P G s t hs ht ns nt).0 (back s 0 hs ∙ e ∙ agree t 0 ht) ∙ sym (key t ht);
      unneeded = λ s l h. agree s 0 l ∙ K.0.unneeded s (omega (arith, K.1)) h;
      begun = λ c h.
          let F = K.0.begun c (omega (arith, e)) in
          let s = (get_or (keyed P).classes c no_keyed).first in
          let l : s < length P.steps = omega (arith, F.0, K.1) in
          (s, l, F.1, agree s 0 l ∙ F.2);
    }

-- a record takes bytes
record_long : (kind : ℕ) (body : List ℕ) → 1 ≤ length (put_record_of kind body)
unfolding put_record_of put
record_long kind body = omega arith

put_all_long : {A : Type 0} (kind : ℕ) (f : A → List ℕ) (xs : List A) → length xs ≤ length (put_all kind f xs)
unfolding put_all
put_all_long kind f [] = omega arith
put_all_long kind f (x ∷ xs) =
    let i = put_all_long kind f xs in
    let l = length-append (put_record_of kind (f x)) (put_all kind f xs) in
    let m = record_long kind (f x) in
    omega arith

-- there are no more steps than bytes
steps_fit : (P : Pack) → length P.steps ≤ length (encode P)
unfolding encode
steps_fit P =
    let h = put_all 6 goal_body P.goals ++ (put_all 7 result_body P.results ++ (put_all 8 cut_body P.cuts ++ put_all 9 abstract_body P.abstracts)) in
    let a = length-append (put_all 1 sort_body P.sorts) (put_all 2 symbol_body P.symbols ++ (put_all 3 rule_body P.rules ++ (put_all 4 node_body P.nodes ++ (put_all 5 step_body P.steps ++ h)))) in
    let b = length-append (put_all 2 symbol_body P.symbols) (put_all 3 rule_body P.rules ++ (put_all 4 node_body P.nodes ++ (put_all 5 step_body P.steps ++ h))) in
    let c = length-append (put_all 3 rule_body P.rules) (put_all 4 node_body P.nodes ++ (put_all 5 step_body P.steps ++ h)) in
    let d = length-append (put_all 4 node_body P.nodes) (put_all 5 step_body P.steps ++ h) in
    let e = length-append (put_all 5 step_body P.steps) h in
    let i = put_all_long 5 step_body P.steps in
    omega arith

-- a pack within the limits has at most 2^24 bytes
pack_fits : (l : Lent) → lengths l ≡ none → l.pack ≤ most_cells
unfolding lengths
pack_fits l e = elim (see (ltb most_cells l.pack)) [
  | is true p ↦ never (let z : some (Limit 0) ≡ none = rw (p, lengths) at e in cc)
  | is false p ↦ omega (arith, ltb-false most_cells l.pack p)
]

-- a call that comes to classes answers with them
call_fine : {A : Type 0} (run : Pack → Run A) (pack : List ℕ) (l : Lent) (P : Pack) (a : A) → lengths l ≡ none → parse pack ≡ fine P → outcome l (run P) ≡ fine a → called run pack l ≡ fine a
unfolding called
call_fine run pack l P a e p o = rw (e, called, p) o

classes_answered : (pack : List ℕ) (class pattern graph work : ℕ) (c : Classed) → called class_run pack (classes_lent (length pack) class pattern graph work) ≡ fine c
    → cert_classes pack class pattern graph work ≡ answered (classes_lent (length pack) class pattern graph work) c []
unfolding cert_classes
classes_answered pack class pattern graph work c e = rw (e, cert_classes)

-- what it answers with
classes_left : (l : Lent) (P : Pack) (c : Classed) (text : List ℕ) → c.pack ≡ P → Principal P (length c.built.classes) (padded l.class (class_words P c.built)) (padded l.pattern (pattern_words c.built.store))
    → ((answered l c text).returned ≡ answer none) × Principal P (answered l c text).figures.classes (answered l c text).class (answered l c text).pattern
unfolding answered figures
classes_left l P c text e h = (refl, subst (λ (Q : Pack). Principal P (length c.built.classes) (padded l.class (class_words Q c.built)) (padded l.pattern (pattern_words c.built.store))) (sym e) h)

-- what class building comes to on an accepted pack
record Accounted (P : Pack) : Type 0 where
  notes : List Note
  classed : Classed
  run : class_run P ≡ done notes classed
  pack : classed.pack ≡ P
  principal : (class pattern : ℕ) → Principal P (length classed.built.classes) (padded class (class_words P classed.built)) (padded pattern (pattern_words classed.built.store))

accounted : (pack : List ℕ) → Bytes pack → (l : Lent) → l.pack ≡ length pack → (P : Pack) → parse pack ≡ fine P → Accepted P → lengths l ≡ none → Accounted P
accounted pack h l long P p A e =
    let G = parsed_good pack P p in
    let F = parsed_few pack P p in
    let O = parsed_once pack P p in
    let fits = pack_fits l e in
    let same = ap length (encode_parsed pack P h p) in
    let few : length P.steps < nothing = omega (arith, steps_fit P, long) in
    let R = never_stops P G F O A few (rule-made P G F O A few) in
    record { notes = R.0; classed = R.1; run = R.2; pack = R.3; principal = λ class pattern. built_principal P G A R.1.built R.4 R.5 class pattern }

-- demand 3 of the definition's class call, on every pack of bytes and all lengths
pub demand_three : (pack : List ℕ) → Bytes pack → (class pattern graph work : ℕ) → DemandThree pack class pattern graph work (cert_classes pack class pattern graph work)
demand_three pack h class pattern graph work P p A l enough =
    let lent = classes_lent (length pack) class pattern graph work in
    let R = accounted pack h lent refl P p A l in
    let c = R.classed in
    let fine-is : outcome lent (class_run P) ≡ fine c = ap (outcome lent) R.run ∙ enough_done lent R.notes c (rw R.run at enough) in
    let left = classes_answered pack class pattern graph work c (call_fine class_run pack lent P c l p fine-is) in
    subst (λ (x : Left). (x.returned ≡ answer none) × Principal P x.figures.classes x.class x.pattern) (sym left)
    (classes_left lent P c [] R.pack (R.principal class pattern))

-- the goals' text behind it
show_run_law : (budget valueBudget : ℕ) (P : Pack) (ns : List Note) (c : Classed) → class_run P ≡ done ns c
    → (ms : List Note) × (show_run budget valueBudget P ≡ done ms (record { classed = c; text = shown_text P c.built budget valueBudget c.roots }))
unfolding show_run ◌>>=◌ behind
show_run_law budget valueBudget P ns c e = (ns ++ (record { buffer = 5; fill = length (shown_text P c.built budget valueBudget c.roots) } ∷ []), rw e)

show_answered : (pack : List ℕ) (budget valueBudget class pattern graph work text : ℕ) (s : Shown) → called (show_run budget valueBudget) pack (show_lent (length pack) class pattern graph work text) ≡ fine s
    → cert_show pack budget valueBudget class pattern graph work text ≡ answered (show_lent (length pack) class pattern graph work text) s.classed s.text
unfolding cert_show
show_answered pack budget valueBudget class pattern graph work text s e = rw (e, cert_show)

-- demand 3 of the definition's show call
pub demand_three_shown : (pack : List ℕ) → Bytes pack → (budget valueBudget class pattern graph work text : ℕ)
    → DemandThreeShown pack budget valueBudget class pattern graph work text (cert_show pack budget valueBudget class pattern graph work text)
demand_three_shown pack h budget valueBudget class pattern graph work text P p A l enough =
    let lent = show_lent (length pack) class pattern graph work text in
    let R = accounted pack h lent refl P p A l in
    let c = R.classed in
    let s : Shown = record { classed = c; text = shown_text P c.built budget valueBudget c.roots } in
    let D = show_run_law budget valueBudget P R.notes c R.run in
    let fine-is : outcome lent (show_run budget valueBudget P) ≡ fine s = ap (outcome lent) D.1 ∙ enough_done lent D.0 s (rw D.1 at enough) in
    let left = show_answered pack budget valueBudget class pattern graph work text s (call_fine (show_run budget valueBudget) pack lent P s l p fine-is) in
    subst (λ (x : Left). (x.returned ≡ answer none) × Principal P x.figures.classes x.class x.pattern) (sym left)
    (classes_left lent P c s.text R.pack (R.principal class pattern))
