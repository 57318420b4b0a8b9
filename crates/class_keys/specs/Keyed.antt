-- What is there when all steps have their classes: the keys as the definition has them, in the words of work and of the class buffer.
use Rattle.std.specs.Prelude.{◌≡◌, List, ℕ, suc, ◌+◌, ◌*◌, ◌≤◌, ◌<◌, eqb, length, get_or, take}
use Rattle.std.proofs.Common.{sym, ap, ◌∙◌, subst, arith, ext_get_or, length-take-le, get_or-take}
use Rattle.definition.specs.Test.{any}
use Rattle.definition.specs.Pack.{Pack, step_of}
use Rattle.definition.specs.Good.{Good}
use Rattle.definition.specs.Graph.{up_to}
use Rattle.definition.specs.Classes.{count_of}
use Rattle.definition.specs.Keys.{no_keyed, needed, keyed}
use Rattle.theory.specs.Keys.KeyedLaws.{keyed-kept}
use Rattle.theory.specs.Keys.Summed.{counts-sum}
use Rattle.base.specs.Outside.{Outside, outside_none, outside_then, outside_wider}
use Rattle.base.specs.Upto.{Upto, upto_outside}
use Rattle.pack_tables.specs.Catalog.{records_of}
use Rattle.pack_tables.specs.declared.catalog.Catalog.{Catalog}
use Rattle.pack_read.specs.Reads.{length-nodes, length_steps}
use Rattle.pack_read.specs.Held.{Proper, OfHeld}
use Rattle.class_keys.specs.Firsts.{Firsts, Noted, placed-back, judgment-given}
use Rattle.class_keys.specs.ClassWords.{first_in, count_in, end_of, Keyable, placed, keyable_on}
use Rattle.class_keys.specs.Table.{steps_of}
use Rattle.class_keys.specs.Stands.{keys_to, keys_all, Stands}
use Rattle.class_keys.specs.Turns.{State, Turns, Begins, steps_on}
use Rattle.class_keys.specs.declared.classes.Keying.{Keying}
use Rattle.class_keys.specs.declared.classes.Counts.{Counts}

-- the words say the keys of pack P
pub record KeyedIn (P : Pack) (work class : List ℕ) (k : Keying) (r : Counts) : Type 0 where
  -- how many classes and needed steps there are
  pub classes : r.classes ≡ length (keyed P).classes
  pub needed : r.needed ≡ length (needed P)
  pub few : r.classes ≤ length P.steps
  -- each step's class, 2^32−1 where it is not needed
  pub words : take (length P.steps) class ≡ (keyed P).words
  -- each class's first step, and how many steps it has
  pub first : (i : ℕ) → i < r.classes → first_in work k i ≡ (get_or (keyed P).classes i no_keyed).first
  pub count : (i : ℕ) → i < r.classes → count_in work k i ≡ (get_or (keyed P).classes i no_keyed).count
  -- the first step of each judgment
  pub firsts : Firsts P work k.at

-- so they do of the pack that is held
pub record KeyedWork (bytes work class : List ℕ) (c : Catalog) (k : Keying) (r : Counts) : Type 0 where
  pub keyable : Keyable bytes work class c k
  pub keyed : OfHeld bytes work c (λ P. KeyedIn P work class k r)

-- ---- when all steps have their classes
-- as many are needed as were met
needed-all : (P : Pack) → Good P → count_of (λ t. any (eqb t) (needed P)) (up_to (length P.steps)) ≡ length (needed P)
needed-all P G =
    let K = keyed-kept P G in
    ap (λ (i : ℕ). count_of (λ t. any (eqb t) (needed P)) (up_to i)) (sym K.1) ∙ sym K.0.summed ∙ counts-sum P G

-- what the words stand for then is what the definition has
keyed_in : (P : Pack) → Good P → (work class : List ℕ) (k : Keying) (n : ℕ) (r : Counts) → r.classes ≤ length P.steps → Stands P work class k n (length P.steps) r (keyed P) → KeyedIn P work class k r
keyed_in P G work class k n r few S = record {
  classes = S.many;
  needed = S.seen ∙ needed-all P G;
  few = few;
  words = S.words;
  first = S.first;
  count = S.count;
  firsts = S.firsts;
}

-- in whatever pack is held
pub keyed_work : (bytes work class : List ℕ) (c : Catalog) (k : Keying) (s : ℕ) (r : Counts) → State bytes work class c k s r → steps_of work c ≤ s → KeyedWork bytes work class c k r
keyed_work bytes work class c k s r St h = record {
  keyable = St.keyable;
  keyed = λ P R Q.
      let e : s ≡ length P.steps = omega (arith, h, St.left, length_steps bytes (records_of work c) P R) in
      keyed_in P Q.good work class k (steps_of work c) r (omega (arith, St.few, e))
      (subst (Stands P work class k (steps_of work c) (length P.steps) r) (keys_all P)
      (subst (λ (i : ℕ). Stands P work class k (steps_of work c) i r (keys_to P i)) e (St.stands P R Q)));
}

-- ---- what the walk leaves
-- after s steps
pub record Walked (bytes work class work' class' : List ℕ) (c : Catalog) (k : Keying) (s : ℕ) (done : Counts) : Type 0 where
  pub state : State bytes work' class' c k s done
  pub frame : Outside k.at (end_of k) work work'
  pub classes : Outside 0 (steps_of work c) class class'

-- before the first step
pub walked_none : (bytes work class : List ℕ) (c : Catalog) (k : Keying) (done : Counts) → State bytes work class c k 0 done → Walked bytes work class work class c k 0 done
walked_none bytes work class c k done St = record { state = St; frame = outside_none k.at (end_of k) work; classes = outside_none 0 (steps_of work c) class }

module _ (bytes work class work' class' : List ℕ) (c : Catalog) (k : Keying) (K : Keyable bytes work class c k) (s : ℕ) (done : Counts) (W : Walked bytes work class work' class' c k s done) where
  -- there are as many steps
  pub walked_steps : steps_of work' c ≡ steps_of work c
  walked_steps = steps_on bytes work class work' c k K (upto_outside k.at k.at (end_of k) work work' (omega arith) W.frame)

  -- one step more
  pub walked_more : s < steps_of work c → (work'' class'' : List ℕ) (r : Counts) → Turns bytes work' class' work'' class'' c k s r → Walked bytes work class work'' class'' c k (suc s) r
  walked_more h work'' class'' r T = record {
    state = T.state;
    frame = outside_then k.at (end_of k) work work' work'' W.frame T.frame;
    classes = outside_then 0 (steps_of work c) class class' class'' W.classes (outside_wider s (suc s) 0 (steps_of work c) class' class'' (omega arith) h T.classes);
  }

  -- all steps
  walked_all : steps_of work c ≤ s → KeyedWork bytes work' class' c k done
  walked_all h = keyed_work bytes work' class' c k s done W.state (omega (arith, h, walked_steps))

-- all steps have their classes
pub ended : (bytes work class work₀ class₀ work' class' : List ℕ) (c : Catalog) (k : Keying) (n s : ℕ) (done : Counts) → Begins bytes work class work₀ class₀ c k n → Walked bytes work₀ class₀ work' class' c k s done → n ≤ s
    → KeyedWork bytes work' class' c k done × Outside k.at (end_of k) work work' × Outside 0 (steps_of work c) class class'
ended bytes work class work₀ class₀ work' class' c k n s done B W h = (
  walked_all bytes work₀ class₀ work' class' c k B.state.keyable s done W (omega (arith, h, B.here)),
  outside_then k.at (end_of k) work work₀ work' B.frame W.frame,
  outside_then 0 (steps_of work c) class class₀ class' B.classes (subst (λ (i : ℕ). Outside 0 i class₀ class') (sym B.here ∙ B.steps) W.classes),
)

-- ---- what stays when other words are written
-- words outside those of the keys, and of the class buffer behind the steps
pub keyed_in_on : (P : Pack) → Proper P → (work work' class class' : List ℕ) (k : Keying) (r : Counts) → length P.nodes ≤ k.cap → length P.steps ≤ k.cap → length P.steps ≤ length class → length P.steps ≤ length class'
    → ((i : ℕ) → k.at ≤ i → i < end_of k → get_or work' i 0 ≡ get_or work i 0) → ((i : ℕ) → i < length P.steps → get_or class' i 0 ≡ get_or class i 0) → KeyedIn P work class k r → KeyedIn P work' class' k r
keyed_in_on P Q work work' class class' k r nodes steps long long' same rows I = record {
  classes = I.classes;
  needed = I.needed;
  few = I.few;
  words =
      ext_get_or 0 (take (length P.steps) class') (take (length P.steps) class) (length-take-le (length P.steps) class' long' ∙ sym (length-take-le (length P.steps) class long)) (λ i h.
      let l : i < length P.steps = omega (arith, h, length-take-le (length P.steps) class' long') in
      get_or-take (length P.steps) class' i 0 l ∙ rows i l ∙ sym (get_or-take (length P.steps) class i 0 l))
      ∙ I.words;
  first = λ i l. same (k.at + k.cap + i) (omega arith) (omega (arith, l, I.few, steps)) ∙ I.first i l;
  count = λ i l. same (k.at + 2 * k.cap + i) (omega arith) (omega (arith, l, I.few, steps)) ∙ I.count i l;
  firsts = record { first = λ s l. same (k.at + (step_of P s).judgment) (omega arith) (omega (arith, judgment-given P Q s l, nodes)) ∙ I.firsts.first s l };
}

-- words behind those of the keys
pub keyed_work_on : (bytes work work' class class' : List ℕ) (c : Catalog) (k : Keying) (r : Counts) → Upto (end_of k) work work' → length class' ≡ length class
    → ((i : ℕ) → i < steps_of work c → get_or class' i 0 ≡ get_or class i 0) → KeyedWork bytes work class c k r → KeyedWork bytes work' class' c k r
keyed_work_on bytes work work' class class' c k r U long rows W =
    let ahead : Upto k.at work work' = record { long = U.long; words = λ i h. U.words i (omega arith) } in
    let K = W.keyable in
    record {
      keyable = keyable_on bytes work class work' class' c k K ahead long;
      keyed = λ P R Q.
          let b = placed-back bytes work work' c k.at (placed bytes work class c k K) ahead P R in
          let e = length_steps bytes (records_of work c) P b in
          keyed_in_on P Q work work' class class' k r (omega (arith, K.nodes, length-nodes bytes (records_of work c) P b)) (omega (arith, K.steps, e)) (omega (arith, K.words, e)) (omega (arith, K.words, e, long))
          (λ i l h. U.words i h) (λ i h. rows i (omega (arith, h, e))) (W.keyed P b Q);
    }

-- ---- what readers ask for
module _ (bytes work class : List ℕ) (c : Catalog) (k : Keying) (r : Counts) (W : KeyedWork bytes work class c k r) where
  -- the first steps are noted
  pub keyed-noted : Noted bytes work c k.at
  keyed-noted = record { placed = placed bytes work class c k W.keyable; firsts = λ P R Q. (W.keyed P R Q).firsts }

  -- a class has its words
  pub keyed-room : (i : ℕ) → i < r.classes → (k.at + k.cap + i < length work) × (k.at + 2 * k.cap + i < length work)
  keyed-room i h =
      let H = W.keyable.held in
      let f = (W.keyed H.pack H.reads H.proper).few in
      let e = length_steps bytes (records_of work c) H.pack H.reads in
      (omega (arith, h, f, e, W.keyable.steps, W.keyable.room), omega (arith, h, f, e, W.keyable.steps, W.keyable.room))
