-- The lines of a goal's variables.
use Rattle.std.specs.Prelude.{Some, None}
use Rattle.std.specs.Prelude.{◌≡◌, refl, false, List, [], ◌∷◌, ◌++◌, length, get_or}
use Rattle.std.proofs.Math.Path.{sym}
use Rattle.std.proofs.Common.{ap, subst, ◌∙◌, append_assoc, append-nil}
use Rattle.std.proofs.Math.Option.{none, some}
use Prim.Native.Nat.{ℕ, suc, ◌+◌, ◌≤◌, ◌<◌}
use native.Mathlib.Omega.{arith}
use Rattle.definition.specs.Test.{is, see}
use Rattle.definition.specs.Pack.{Pack, node_of, sort_of}
use Rattle.definition.specs.Verdict.{Bound, value_of}
use Rattle.definition.specs.Classes.{Class, mark}
use Rattle.definition.specs.Decimal.{decimal}
use Rattle.definition.specs.Store.{term_of}
use Rattle.definition.specs.Graph.{up_to}
use Rattle.definition.specs.Shown.{show, variable_name, variable_line, variable_lines}
use Rattle.base.specs.Upto.{Upto, upto_none, upto_then}
use Rattle.memo.specs.Recall.{recall, length-recall, known}
use Rattle.memo.specs.Lent.{lent, lent_long, recall_at}
use Rattle.pack_tables.specs.Catalog.{records_of}
use Rattle.pack_read.specs.Reads.{Reads, length-nodes}
use Rattle.pack_read.specs.Says.{Readable}
use Rattle.pack_read.specs.Held.{readable}
use Rattle.text_write.specs.Written.{Adds, adds_none, adds_then, adds_as}
use Rattle.text_write.specs.Source.{nodes_ground, many_ground}
use Rattle.text_write.specs.Walk.{Writing, Writes}
use Rattle.text_goals.specs.Form.{ground_of, Lined, OfLined, lined_on, lined_reads, says_on}
use Rattle.text_goals.specs.declared.form.Form.{Form}

-- variable k of the class with the value n
abbrev pub Kinds : (bytes work class words : List ℕ) (f : Form) (k n : ℕ) → Type 0
Kinds bytes work class words f k n = (L : Lined bytes work class words f) × (k < L.many) × (n < length (records_of work f.patterns.catalog 3))

-- a line up to the value: "number, sort, flex mark"
abbrev pub kind_text : Pack → Class → ℕ → ℕ → List ℕ
kind_text P x k n = variable_name k ++ ((32 ∷ 58 ∷ 32 ∷ []) ++ (get_or P.sorts (sort_of P n) [] ++ ((32 ∷ []) ++ (decimal (mark (get_or x.flex k false)) ++ (32 ∷ [])))))

abbrev pub PutsKind : (bytes work class text text' : List ℕ) (f : Form) (at k n r : ℕ) → Type 0
PutsKind bytes work class text text' f at k n r = OfLined bytes work class f (λ P x vs. Adds text text' at (kind_text P x k n) r)

-- lines are written, and words of the stack
pub record WritesLine (bytes work work' class words text text' : List ℕ) (f : Form) (at k n r : ℕ) : Type 0 where
  pub upto : Upto f.stack work work'
  pub adds : OfLined bytes work class f (λ P x vs. Adds text text' at (variable_line P x f.budget k n) r)

pub record WritesVariable (bytes work work' class words text text' : List ℕ) (f : Form) (at k r : ℕ) : Type 0 where
  pub upto : Upto f.stack work work'
  pub adds : OfLined bytes work class f (λ P x vs. Adds text text' at (variable_lines P x f.budget vs (k ∷ [])) r)

pub record WritesVariables (bytes work work' class words text text' : List ℕ) (f : Form) (at r : ℕ) : Type 0 where
  pub upto : Upto f.stack work work'
  pub adds : OfLined bytes work class f (λ P x vs. Adds text text' at (variable_lines P x f.budget vs (up_to (length x.flex))) r)

-- ---- the definition's lines
-- a line is what stands ahead of the value, the value and the line's end
line_is : (P : Pack) (x : Class) (b k n : ℕ) → variable_line P x b k n ≡ kind_text P x k n ++ ((show P variable_name (term_of P.nodes n) b).bytes ++ (10 ∷ []))
unfolding variable_line
line_is P x b k n = parts (variable_name k) (32 ∷ 58 ∷ 32 ∷ []) (get_or P.sorts (sort_of P n) []) (decimal (mark (get_or x.flex k false))) (show P variable_name (term_of P.nodes n) b).bytes (10 ∷ [])
  where
    parts : (a b c d e f : List ℕ) → (a ++ b) ++ ((c ++ (32 ∷ d)) ++ ((32 ∷ e) ++ f)) ≡ (a ++ (b ++ (c ++ ((32 ∷ []) ++ (d ++ (32 ∷ [])))))) ++ (e ++ f)
    parts a b c d e f = simp append_assoc

-- lines behind lines
pub lines-append : (P : Pack) (x : Class) (b : ℕ) (vs : List Bound) (ks js : List ℕ) → variable_lines P x b vs (ks ++ js) ≡ variable_lines P x b vs ks ++ variable_lines P x b vs js
unfolding variable_lines
lines-append P x b vs [] js = refl
lines-append P x b vs (k ∷ ks) js = elim (see (value_of k vs)) [
  | is none e ↦ rw (e, variable_lines) (lines-append P x b vs ks js)
  | is (some n) e ↦ rw (e, variable_lines) (ap (λ (zs : List ℕ). variable_line P x b k n ++ zs) (lines-append P x b vs ks js) ∙ sym (append_assoc (variable_line P x b k n) (variable_lines P x b vs ks) (variable_lines P x b vs js)))
]

-- a variable that the conclusion lacks has no line
line-none : (P : Pack) (x : Class) (b : ℕ) (vs : List Bound) (k : ℕ) → value_of k vs ≡ none → variable_lines P x b vs (k ∷ []) ≡ []
unfolding variable_lines
line-none P x b vs k e = rw (e, variable_lines)

line_some : (P : Pack) (x : Class) (b : ℕ) (vs : List Bound) (k n : ℕ) → value_of k vs ≡ some n → variable_lines P x b vs (k ∷ []) ≡ variable_line P x b k n
unfolding variable_lines
line_some P x b vs k n e = rw (e, variable_lines) (append-nil (variable_line P x b k n))

-- ---- one line
module _ (bytes work class words : List ℕ) (f : Form) (k n : ℕ) (K : Kinds bytes work class words f k n) where
  -- the mark's word is there
  pub kind_mark : f.row + 3 + k < length class
  kind_mark = omega (arith, K.0.within, K.1)

  -- the value has a sort
  pub kind_sorted : (R : Readable bytes work f.patterns.catalog) × (n < length (records_of work f.patterns.catalog 3)) × ((node_of R.pack n).head < length R.pack.symbols)
  kind_sorted = let H = K.0.patterns.sourced.held in (readable bytes work f.patterns.catalog H, K.2, (H.proper.good.nodes n (omega (arith, K.2, length-nodes bytes (records_of work f.patterns.catalog) H.pack H.reads))).head)

  -- the value is a ground node
  pub kind_writing : Writing bytes work words (ground_of f.patterns) f.stack n
  kind_writing = record { placed = K.0.grounds; there = omega (arith, K.2, many_ground K.0.patterns.sourced.held.pack work words (ground_of f.patterns) refl) }

  -- what stands ahead of it, by its parts
  pub kind_puts : (text t1 t2 t3 t4 t5 text' : List ℕ) (at a1 a2 a3 a4 a5 r s m : ℕ)
      → Adds text t1 at (variable_name k) a1 → Adds t1 t2 a1 (32 ∷ 58 ∷ 32 ∷ []) a2
      → ((P : Pack) → Reads bytes (records_of work f.patterns.catalog) P → s ≡ sort_of P n) → ((P : Pack) → Reads bytes (records_of work f.patterns.catalog) P → Adds t2 t3 a2 (get_or P.sorts s []) a3)
      → Adds t3 t4 a3 (32 ∷ []) a4 → m ≡ get_or class (f.row + 3 + k) 0 → Adds t4 t5 a4 (decimal m) a5 → Adds t5 text' a5 (32 ∷ []) r → PutsKind bytes work class text text' f at k n r
  kind_puts text t1 t2 t3 t4 t5 text' at a1 a2 a3 a4 a5 r s m A B sort C D e E F = λ P x vs R Q S.
      let sorted : Adds t2 t3 a2 (get_or P.sorts (sort_of P n) []) a3 = subst (λ (i : ℕ). Adds t2 t3 a2 (get_or P.sorts i []) a3) (sort P R) (C P R) in
      let marked : Adds t4 t5 a4 (decimal (mark (get_or x.flex k false))) a5 = subst (λ (i : ℕ). Adds t4 t5 a4 (decimal i) a5) (e ∙ S.marks k (omega (arith, K.1, K.0.count, S.many))) E in
      adds_then text t1 text' at a1 r (variable_name k) _ A
      (adds_then t1 t2 text' a1 a2 r (32 ∷ 58 ∷ 32 ∷ []) _ B
      (adds_then t2 t3 text' a2 a3 r (get_or P.sorts (sort_of P n) []) _ sorted
      (adds_then t3 t4 text' a3 a4 r (32 ∷ []) _ D
      (adds_then t4 t5 text' a4 a5 r (decimal (mark (get_or x.flex k false))) _ marked F))))

  -- and the whole line
  pub line_writes : (text t1 t2 text' work' : List ℕ) (at a1 a2 r : ℕ) → PutsKind bytes work class text t1 f at k n a1 → Writes bytes work work' words t1 t2 (ground_of f.patterns) f.stack a1 f.budget n a2 → Adds t2 text' a2 (10 ∷ []) r
      → WritesLine bytes work work' class words text text' f at k n r
  line_writes text t1 t2 text' work' at a1 a2 r A W E = record {
    upto = W.upto;
    adds = λ P x vs R Q S.
        let shown = (show P variable_name (term_of P.nodes n) f.budget).bytes in
        let value : Adds t1 t2 a1 shown a2 = adds_as t1 t2 a1 a2 _ shown (ap (λ ns. (show P variable_name (term_of ns n) f.budget).bytes) (nodes_ground P work words (ground_of f.patterns) refl)) (W.adds P R Q) in
        adds_as text text' at r _ (variable_line P x f.budget k n) (sym (line_is P x f.budget k n)) (adds_then text t1 text' at a1 r (kind_text P x k n) _ (A P x vs R Q S) (adds_then t1 t2 text' a1 a2 r shown (10 ∷ []) value E));
  }

-- ---- a variable with or without a value
module _ (bytes work class words : List ℕ) (f : Form) (k : ℕ) (L : Lined bytes work class words f) (h : k < L.many) where
  -- its value can be looked up
  pub variable-kept : (f.values ≤ f.stack) × (f.stack ≤ length work) × (k < length (recall (lent f.values f.stack work) f.memo))
  variable-kept =
      let top = L.patterns.room in
      let l = lent_long f.values f.stack work (omega (arith, L.room)) (omega (arith, top)) in
      (omega (arith, L.room), omega (arith, top), omega (arith, h, L.room, l, length-recall (lent f.values f.stack work) f.memo))

  -- it has one
  pub variable-kinds : (n : ℕ) → known (Some n) ≡ recall_at f.values f.stack work f.memo k → Kinds bytes work class words f k n
  variable-kinds n e = (L, h, L.given k n (sym e))

  pub variable_some : (n : ℕ) → known (Some n) ≡ recall_at f.values f.stack work f.memo k → (work' text text' : List ℕ) (at r : ℕ) → WritesLine bytes work work' class words text text' f at k n r → WritesVariable bytes work work' class words text text' f at k r
  variable_some n e work' text text' at r W = record {
    upto = W.upto;
    adds = λ P x vs R Q S. adds_as text text' at r _ (variable_lines P x f.budget vs (k ∷ [])) (sym (line_some P x f.budget vs k n (sym (S.values k) ∙ sym e))) (W.adds P x vs R Q S);
  }

  -- it has none
  pub variable-none : known None ≡ recall_at f.values f.stack work f.memo k → (text : List ℕ) (at : ℕ) → WritesVariable bytes work work class words text text f at k at
  variable-none e text at = record {
    upto = upto_none f.stack work;
    adds = λ P x vs R Q S. adds_as text text at at [] (variable_lines P x f.budget vs (k ∷ [])) (sym (line-none P x f.budget vs k (sym (S.values k) ∙ sym e))) (adds_none text at);
  }

-- ---- one variable after the other
pub record Lining (bytes before work class words text₀ text : List ℕ) (f : Form) (at k r : ℕ) : Type 0 where
  pub upto : Upto f.stack before work
  pub adds : OfLined bytes before class f (λ P x vs. Adds text₀ text at (variable_lines P x f.budget vs (up_to k)) r)

module _ (bytes before class words text₀ : List ℕ) (f : Form) (at : ℕ) (L : Lined bytes before class words f) where
  -- before the first
  pub lining_none : Lining bytes before before class words text₀ text₀ f at 0 at
  unfolding up_to variable_lines
  lining_none = record { upto = upto_none f.stack before; adds = λ P x vs R Q S. adds_none text₀ at }

  module _ (work text : List ℕ) (k r : ℕ) (K : Lining bytes before work class words text₀ text f at k r) where
    -- the next one
    pub lining_lined : Lined bytes work class words f
    lining_lined = lined_on bytes before work class words f K.upto L

    pub lining_many : lining_lined.many ≡ L.many
    lining_many = sym lining_lined.count ∙ L.count

    pub lining_on : (work' text' : List ℕ) (s : ℕ) → WritesVariable bytes work work' class words text text' f r k s → Lining bytes before work' class words text₀ text' f at (k + 1) s
    unfolding up_to
    lining_on work' text' s W = record {
      upto = upto_then f.stack before work work' K.upto W.upto;
      adds = λ P x vs R Q S.
          let e : k + 1 ≡ suc k = omega arith in
          let more : variable_lines P x f.budget vs (up_to k) ++ variable_lines P x f.budget vs (k ∷ []) ≡ variable_lines P x f.budget vs (up_to (k + 1)) =
          sym (ap (λ (n : ℕ). variable_lines P x f.budget vs (up_to n)) e ∙ lines-append P x f.budget vs (up_to k) (k ∷ [])) in
          adds_as text₀ text' at s _ (variable_lines P x f.budget vs (up_to (k + 1))) more
          (adds_then text₀ text text' at r s (variable_lines P x f.budget vs (up_to k)) (variable_lines P x f.budget vs (k ∷ [])) (K.adds P x vs R Q S)
          (W.adds P x vs (lined_reads bytes before work class words f K.upto L P R) Q (says_on bytes before work class words f K.upto L x vs S)));
    }

    -- behind the last
    pub lining_all : k ≡ L.many → WritesVariables bytes before work class words text₀ text f at r
    lining_all e = record {
      upto = K.upto;
      adds = λ P x vs R Q S. subst (λ (n : ℕ). Adds text₀ text at (variable_lines P x f.budget vs (up_to n)) r) (e ∙ sym L.count ∙ S.many) (K.adds P x vs R Q S);
    }
