-- The first step of a rule's class: the classes of its refs are made before it, and its own assignment matches each premise with its ref's conclusion.
use Rattle.std.specs.Prelude.{◌≡◌, true, false, ℕ, ◌<◌, get_or}
use Rattle.std.proofs.Math.Path.{refl, sym, ap, ap₂}
use Rattle.std.proofs.Common.{◌∙◌, arith}
use mathlib.Core.List.{List, [], ◌∷◌, map}
use Rattle.std.proofs.Math.Decide.{dec_lt}
use Rattle.std.proofs.Math.ListN.{length}
use Rattle.definition.specs.Test.{is, see, never}
use Rattle.definition.specs.Pack.{Term, Terms, nil, cons, Pack, rule_of, step_of}
use Rattle.definition.specs.Tree.{Tree, tree_then, tree_of, turn, turns}
use Rattle.definition.specs.Good.{Below, Good}
use Rattle.definition.specs.Verdict.{judgments, Accepted}
use Rattle.definition.specs.Keys.{first_of, predicate_of, is_a_cut, cut_key, rule_key, no_keyed, key_of, needed, keyed}
use Rattle.definition.specs.Classes.{Built}
use Rattle.theory.specs.Keys.Needed.{Among, among_here, among_there, first-earlier, first-judgment}
use Rattle.theory.specs.Keys.KeyedLaws.{keyed-kept}
use Rattle.theory.specs.Classes.Steps.{refs-needed, step_derived}
use Rattle.theory.specs.Classes.Built.{BuiltGood}
use Rattle.theory.specs.Classes.Premise.{Matches}
use Rattle.theory.specs.Classes.Premises.{class_of, Made, MatchesAll, count_is}

-- the first step of a class of a rule: its refs' classes are made, and its own assignment matches each premise with its ref's conclusion
pub record FirstStep (P : Pack) (A : Accepted P) (words : List ℕ) (b : Built) (s : ℕ) : Type 0 where
  pub given : s < length P.steps
  pub needed : Among s (needed P)
  pub uncut : is_a_cut P (predicate_of P s) ≡ false
  pub word : get_or words s 0 ≡ length b.classes
  pub made : Made words b (map (first_of P) (step_of P s).refs)
  pub counted : count_is (rule_of P (step_of P s).rule).premises (map (first_of P) (step_of P s).refs)
  pub matching : MatchesAll words b (A.steps s given).assignment (rule_of P (step_of P s).rule).premises (map (first_of P) (step_of P s).refs)
  pub firsts : judgments P (step_of P s).refs ≡ judgments P (map (first_of P) (step_of P s).refs)

-- a step with a rule's key is not cut
pub rule-key : (P : Pack) (words : List ℕ) (s r : ℕ) (cs : List ℕ) → key_of P words s ≡ rule_key r cs → is_a_cut P (predicate_of P s) ≡ false
unfolding key_of
rule-key P words s r cs e = elim (see (is_a_cut P (predicate_of P s))) [
  | is true c ↦ never (let q : cut_key (predicate_of P s) ≡ rule_key r cs = rw (c, key_of) at e in cc)
  | is false c ↦ c
]

-- a needed step before the first of a class is of an earlier class
pub class_before : (P : Pack) → Good P → (c : ℕ) → c < length (keyed P).classes → (f : ℕ) → f < (get_or (keyed P).classes c no_keyed).first → Among f (needed P) → get_or (keyed P).words f 0 < c
class_before P G c h f l n =
    let K = keyed-kept P G in
    let start = K.0.begun c h in
    let in_words : f < length (keyed P).words = omega (arith, start.0) in
    let d = get_or (keyed P).words f 0 in
    let low = K.0.later f in_words n in
    elim (dec_lt d c) [
      | yes y ↦ y
      | no y ↦ elim (dec_lt c d) [
        | yes z ↦ let o = K.0.ordered c d z (K.0.classed f in_words n).0 in absurd (omega arith)
        | no z ↦
            let e : d ≡ c = omega arith in
            let q : (get_or (keyed P).classes d no_keyed).first ≡ (get_or (keyed P).classes c no_keyed).first = ap (λ (i : ℕ). (get_or (keyed P).classes i no_keyed).first) e in
            absurd (omega arith)
      ]
    ]

-- what holds of premises and refs, with the refs' first steps
record Refs (P : Pack) (words : List ℕ) (b : Built) (ν : ℕ → Tree) (ts : Terms) (refs : List ℕ) : Type 0 where
  made : Made words b (map (first_of P) refs)
  counted : count_is ts (map (first_of P) refs)
  matching : MatchesAll words b ν ts (map (first_of P) refs)
  firsts : judgments P refs ≡ judgments P (map (first_of P) refs)

module _ (P : Pack) (G : Good P) (A : Accepted P) (b : Built) (B : BuiltGood P (keyed P).words b) (h : length b.classes < length (keyed P).classes) where
  abbrev first : ℕ
  first = (get_or (keyed P).classes (length b.classes) no_keyed).first

  -- a premise that becomes the judgment of a needed step of a class that is made is matched with its conclusion
  ref_matches : (ν : ℕ → Tree) (t : Term) (f : ℕ) → f < length P.steps → Among f (needed P) → get_or (keyed P).words f 0 < length b.classes → turn ν t ≡ tree_of P (step_of P f).judgment
      → Matches b.store (class_of (keyed P).words b f).conclusion ν t
  ref_matches ν t f l n d e =
      let N = (B.classes (get_or (keyed P).words f 0) d).instances (tree_of P (step_of P f).judgment) (step_derived P G A f l n) in
      (N.assignment, e ∙ sym N.is)

  -- premises that become the judgments of needed steps before the first are matched with the conclusions of their classes
  refs_match : first < length P.steps → (ν : ℕ → Tree) (ts : Terms) (refs : List ℕ) → Below first refs → ((r : ℕ) → Among r (map (first_of P) refs) → Among r (needed P))
      → turns ν ts ≡ judgments P refs → Refs P (keyed P).words b ν ts refs
  unfolding turn judgments
  refs_match l ν nil [] w m e = record { made = tt; counted = tt; matching = tt; firsts = refl }
  refs_match l ν nil (q ∷ refs) w m e = never (cc)
  refs_match l ν (cons t ts) [] w m e = never (cc)
  refs_match l ν (cons t ts) (q ∷ refs) w m e =
      let f = first_of P q in
      let in-steps : q < length P.steps = omega (arith, w.0) in
      let early : f < first = omega (arith, first-earlier P q in-steps, w.0) in
      let n = m f (among_here f (map (first_of P) refs)) in
      let d = class_before P G (length b.classes) h f early n in
      let j : tree_of P (step_of P f).judgment ≡ tree_of P (step_of P q).judgment = ap (tree_of P) (first-judgment P q in-steps) in
      let top : turn ν t ≡ tree_of P (step_of P q).judgment = cc in
      let rest : turns ν ts ≡ judgments P refs = cc in
      let R = refs_match l ν ts refs w.1 (λ r a. m r (among_there r f (map (first_of P) refs) a)) rest in
      record {
        made = (d, R.made);
        counted = R.counted;
        matching = (ref_matches ν t f (omega arith) n d (top ∙ sym j), R.matching);
        firsts = ap₂ tree_then (sym j) R.firsts;
      }

-- the first step of a rule's class is so
pub first_step : (P : Pack) → Good P → (A : Accepted P) (b : Built) → BuiltGood P (keyed P).words b → length b.classes < length (keyed P).classes
    → (r : ℕ) (cs : List ℕ) → (get_or (keyed P).classes (length b.classes) no_keyed).key ≡ rule_key r cs
    → FirstStep P A (keyed P).words b (get_or (keyed P).classes (length b.classes) no_keyed).first
first_step P G A b B h r cs key =
    let words = (keyed P).words in
    let c = length b.classes in
    let K = keyed-kept P G in
    let s = (get_or (keyed P).classes c no_keyed).first in
    let start = K.0.begun c h in
    let l : s < length P.steps = omega (arith, start.0, K.1) in
    let k : key_of P words s ≡ rule_key r cs = sym (K.0.classed s start.0 start.1).1 ∙ ap (λ (i : ℕ). (get_or (keyed P).classes i no_keyed).key) start.2 ∙ key in
    let not-cut = rule-key P words s r cs k in
    let p = A.steps s l in
    let R = refs_match P G A b B h l p.assignment (rule_of P (step_of P s).rule).premises (step_of P s).refs (G.steps s l).earlier (refs-needed P G s start.1 not-cut) p.premises in
    record {
      given = l;
      needed = start.1;
      uncut = not-cut;
      word = start.2;
      made = R.made;
      counted = R.counted;
      matching = R.matching;
      firsts = R.firsts;
    }
