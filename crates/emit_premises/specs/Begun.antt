-- Building begun, and its end: the premises' patterns, as many as there are premises.
use Rattle.std.specs.Prelude.{Option as Optional, Some, None}
use Rattle.std.specs.Prelude.{◌≡◌, refl, List, [], ◌∷◌, ℕ, suc, ◌+◌, ◌-◌, ◌≤◌, ◌<◌, drop, replicate}
use Rattle.std.proofs.Common.{sym, subst, ◌∙◌}
use Rattle.std.proofs.Math.Path.{ap}
use Rattle.std.proofs.Math.Option.{Option, none, some}
use native.Mathlib.Omega.{arith}
use Rattle.std.proofs.Math.ListN.{length, take}
use Rattle.std.proofs.Math.Seq.{take_at}
use Rattle.definition.specs.Test.{never}
use Rattle.definition.specs.Pack.{prop, Terms, nil, cons, Node, Pack, rule_of}
use Rattle.definition.specs.Certificate.{count}
use Rattle.definition.specs.Verdict.{Bound}
use Rattle.definition.proofs.Laws.Suffix.{judgments_sorted}
use Rattle.emission.specs.Patterns.{BuiltAll, build, build_all}
use Rattle.base.specs.Part.{part, put, length_part}
use Rattle.pack_read.specs.Held.{Proper}
use Rattle.store.specs.Stored.{nodes}
use Rattle.store.specs.declared.nodes.Store.{Store}
use Rattle.emit_match.specs.declared.places.Matching.{Matching}
use Rattle.emit_premises.specs.Open.{Opened, built_all, ahead, over_terms, and_then, whole, whole-begin}
use Rattle.emit_premises.specs.Amid.{Amid}
use Rattle.emit_premises.specs.Turned.{Asked}
use Rattle.emit_premises.specs.Ended.{Ends, Begins, BuildAsked, Finishes}
use Rattle.emit_premises.specs.declared.building.Building.{Building}
use Rattle.emit_premises.specs.declared.build.Built.{Built}
use Rattle.emit_premises.specs.declared.build.Built.TheVariants.{All, Lacks}

-- ---- as many patterns as terms
ahead-many : (p : ℕ) (o : Option (List ℕ)) (s : List Node) (ps : List ℕ) (n : ℕ) → ((qs : List ℕ) → o ≡ some qs → length qs ≡ n) → (ahead (p ∷ []) (built_all o s)).numbers ≡ some ps → length ps ≡ suc n
unfolding ahead
ahead-many p none s ps n h e = never (cc)
ahead-many p (some qs) s ps n h e = let q : p ∷ qs ≡ ps = (let y : some (p ∷ qs) ≡ some ps = e in cc) in sym (ap length q) ∙ ap suc (h qs refl)

-- a term ahead of others is
then_many : (o : Option ℕ) (t : List Node) (rest : List Node → BuiltAll) (ps : List ℕ) (n : ℕ) → ((qs : List ℕ) → (rest t).numbers ≡ some qs → length qs ≡ n) → (and_then (record { number = o; store = t }) rest).numbers ≡ some ps → length ps ≡ suc n
unfolding and_then
then_many none t rest ps n h e = never (cc)
then_many (some p) t rest ps n h e = ahead-many p (rest t).numbers (rest t).store ps n h e

-- terms are built to as many patterns
pub built-many : (ts : Terms) (env : List Bound) (s : List Node) (ps : List ℕ) → (build_all ts env s).numbers ≡ some ps → length ps ≡ count ts
unfolding build count over_terms and_then ahead
built-many nil env s ps e = let q : [] ≡ ps = (let y : some [] ≡ some ps = e in cc) in sym (ap length q)
built-many (cons t ts) env s ps e =
    let first = build t env s in
    then_many first.number first.store (λ u. build_all ts env u) ps (count ts) (λ qs z. built-many ts env first.store qs z) e

-- ---- the first state
module _ (P : Pack) (Q : Proper P) (r : ℕ) (l : r < length P.rules) (stack : List ℕ) (st : Store) (n : ℕ) (b : Building) (B : Begins stack st n b) (many : n ≡ count (rule_of P r).premises) where
  -- the premises are the terms of a symbol around them
  abbrev pub outermost : Opened
  outermost = record { head = 0; given = []; left = (rule_of P r).premises }

  -- on the stack, with nothing built
  first : Amid P r stack (record { store = st; base = 0; top = 3; next = 0 }) outermost []
  first = record {
    frame = record { ends = refl; full = B.end ∙ omega (arith, many); head = B.head; terms = λ i h. absurd (omega arith) };
    around = refl;
    words = refl;
    sorted = (replicate (count (rule_of P r).premises) prop, judgments_sorted P (rule_of P r).vars (rule_of P r).premises (Q.good.rules r l).premises);
    others = tt;
    room = omega arith;
    early = omega arith;
  }

  -- the same of what code made
  pub begun_amid : Amid P r stack b outermost []
  begun_amid = subst (λ (x : Building). Amid P r stack x outermost []) (sym B.state) first

-- a step can be asked for
pub begun-asked : (bytes work words stack : List ℕ) (m : Matching) (r n vars : ℕ) (A : BuildAsked bytes work words m r n) → length stack ≡ 771 → (b : Building) → Begins stack m.store n b → vars ≡ length (rule_of A.site.held.pack r).vars
    → Asked bytes work words stack m r vars b
begun-asked bytes work words stack m r n vars A long b B v =
    let H = A.site.held in
    let S = A.site in
    let e : b.store ≡ m.store = ap (λ (x : Building). x.store) B.state in
    record {
      site = record { held = H; stored = rw e S.stored; tables = S.tables; order = S.order; behind = S.behind; room = S.room };
      long = long;
      rule = A.rule;
      variables = v;
      inner = outermost H.pack H.proper r A.rule stack m.store n b B A.many;
      outer = [];
      amid = begun_amid H.pack H.proper r A.rule stack m.store n b B A.many;
      values = A.values;
      mapped = A.mapped;
    }

-- ---- the end
-- what stood on the stack stands in qs
module _ (n : ℕ) (stack qs ys : List ℕ) (copied : ys ≡ take (3 + n - 3) (drop 3 stack)) where
  -- the first of qs are those that stood there
  pub copied_take : 3 + n ≤ length stack → take n (put 0 (n - 0) ys qs) ≡ part 3 n stack
  unfolding part
  copied_take fits =
      let e : 3 + n - 3 ≡ n = omega arith in
      let c : ys ≡ part 3 n stack = copied ∙ ap (λ (k : ℕ). take k (drop 3 stack)) e in
      take_at ys (drop (n - 0) (drop 0 qs)) n (ap length c ∙ length_part 3 n stack fits) ∙ c

  -- and the premises, if all are built
  pub finished : (ts : Terms) (env : List Bound) (s : List Node) (words words' : List ℕ) → n ≡ count ts → (x : Optional Built) → Ends (build_all ts env s) words words' stack x → Finishes (build_all ts env s) words words' (put 0 (n - 0) ys qs) n x
  finished ts env s words words' many (Some (All st)) E =
      let k : length E.0 ≡ n = built-many ts env s E.0 (ap (λ (o : BuiltAll). o.numbers) E.1) ∙ sym many in
      let q : take n (put 0 (n - 0) ys qs) ≡ E.0 = copied_take (omega (arith, E.3)) ∙ ap (λ (j : ℕ). part 3 j stack) (sym k) ∙ E.2 in
      E.1 ∙ ap (λ (ps : List ℕ). built_all (some ps) (nodes words' st)) (sym q)
  finished ts env s words words' many (Some (Lacks st)) E = E
  finished ts env s words words' many None E = E

-- as the premises are built
pub begun-whole : (P : Pack) (Q : Proper P) (r : ℕ) (l : r < length P.rules) (stack : List ℕ) (st : Store) (n : ℕ) (b : Building) (B : Begins stack st n b) (many : n ≡ count (rule_of P r).premises) (bs : List Bound) (words : List ℕ)
    → whole (outermost P Q r l stack st n b B many) [] bs (nodes words b.store) ≡ build_all (rule_of P r).premises bs (nodes words st)
begun-whole P Q r l stack st n b B many bs words =
    whole-begin 0 (rule_of P r).premises bs (nodes words b.store) ∙ ap (λ (x : Building). build_all (rule_of P r).premises bs (nodes words x.store)) B.state
