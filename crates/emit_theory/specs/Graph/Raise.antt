-- Raising nodes of a well-sorted graph: the store stays well sorted, and the patterns have their nodes' sorts and can be spoken of.
use Rattle.std.specs.Prelude.{◌≡◌, eqb, length}
use Rattle.std.proofs.Math.Path.{refl, sym, ap}
use Rattle.std.proofs.Common.{◌∙◌, eqb-true}
use Rattle.std.proofs.Math.Bool.{true, false}
use mathlib.Core.List.{List, [], ◌∷◌}
use Rattle.std.proofs.Math.Option.{none, some}
use Prim.Native.Nat.{ℕ, zero, suc, ◌<◌}
use Rattle.definition.specs.Test.{is, see, never}
use Rattle.definition.specs.Pack.{Node, Pack, symbol_of}
use Rattle.definition.specs.Good.{Below}
use Rattle.definition.specs.Verdict.{Bound, value_of}
use Rattle.definition.specs.Store.{is_variable, intern}
use Rattle.definition.specs.Graph.{Graph, vertex, root, is_var}
use Rattle.definition.specs.Analysis.{pairing}
use Rattle.emission.specs.Global.{node_of_l, Reading, RaisedOne, Raised, raises_none, raise_root, raise_one, raise_next, raise}
use Rattle.theory.specs.Unification.Solve.{sort_at}
use Rattle.theory.specs.Copies.Begin.{sort_at-applied}
use Rattle.theory.specs.Patterns.Interned.{Grows, grows_none, grows_then}
use Rattle.emit_theory.specs.Graphs.{SortedGraph}
use Rattle.emit_theory.specs.Spoken.{is_L, over}
use Rattle.emit_theory.specs.Graph.Unify.{root_inside, root-sort}
use Rattle.emit_theory.specs.Graph.Intern.{intern_application}
use Rattle.emit_theory.specs.Graph.Read.{RaisedTo, RaisedToAll, Reads, raised_grows, raised_all-grow, reads_grow, reads_more, raised_spoken, raised_sorts}

-- L's pattern, the names and a well-sorted graph
module _ (P : Pack) (L : ℕ) (names : List Bound) (g : Graph) where
  -- what raising one node comes to
  pub record RaisesOne (x : ℕ) (m : Reading) (R : RaisedOne) : Type 0 where
    pub grows : Grows m.store R.reading.store
    pub reads : Reads P L names g R.reading
    pub pattern : (p : ℕ) → R.pattern ≡ some p → RaisedTo P L names g R.reading.store x p

  -- and several
  pub record RaisesAll (xs : List ℕ) (m : Reading) (R : Raised) : Type 0 where
    pub grows : Grows m.store R.reading.store
    pub reads : Reads P L names g R.reading
    pub patterns : (ps : List ℕ) → R.patterns ≡ some ps → RaisedToAll P L names g R.reading.store xs ps

  -- nothing was raised
  none_raised : (x : ℕ) (m k : Reading) → Grows m.store k.store → Reads P L names g k → RaisesOne x m (raises_none k)
  none_raised x m k G R = record { grows = G; reads = R; pattern = λ p e. never (cc) }

  -- the first, and then the rest
  next_raised : (x : ℕ) (xs : List ℕ) (m : Reading) (first : RaisedOne) → RaisesOne x m first → (rest : Reading → Raised) → ((k : Reading) → Reads P L names g k → RaisesAll xs k (rest k))
      → RaisesAll (x ∷ xs) m (raise_next first rest)
  unfolding raise_next
  next_raised x xs m first F rest ih =
      let s = first.reading.store in
      let others = rest first.reading in
      let O = ih first.reading F.reads in
      let G = grows_then m.store s others.reading.store F.grows O.grows in
      elim (see first.pattern) [
        | is none e ↦ rw (e, raise_next) (record { grows = F.grows; reads = F.reads; patterns = λ ps f. never (cc) })
        | is (some p) e ↦ elim (see others.patterns) [
          | is none f ↦ rw (e, f, raise_next) (record { grows = G; reads = O.reads; patterns = λ ps q. never (let z : none ≡ some ps = sym f ∙ q in cc) })
          | is (some ps) f ↦ rw (e, f, raise_next) (record {
            grows = G;
            reads = O.reads;
            patterns = λ qs q.
                let z : p ∷ ps ≡ qs = cc in
                rw (← z) (raised_grows P L names g s others.reading.store O.grows x p (F.pattern p e), O.patterns ps f);
          })
        ]
      ]

  -- by a root of its sort
  root_raised : (x r : ℕ) → sort_at P g x ≡ sort_at P g r → (m : Reading) (R : RaisedOne) → RaisesOne r m R → RaisesOne x m R
  root_raised x r s m R O = record {
    grows = O.grows;
    reads = O.reads;
    pattern = λ p e. let T = O.pattern p e in record { within = T.within; sort = T.sort ∙ sym s; spoken = T.spoken };
  }

  -- the memo is asked first
  asked_raised : (anew : ℕ → Reading → RaisedOne) (r : ℕ) (m : Reading) → Reads P L names g m → RaisesOne r m (anew r m) → RaisesOne r m (raise_one anew r m)
  unfolding raise_one
  asked_raised anew r m R A = elim (see (value_of r m.memo)) [
    | is none e ↦ rw (e, raise_one) A
    | is (some p) e ↦ rw (e, raise_one) (record { grows = grows_none m.store; reads = R; pattern = λ q f. let z : p ≡ q = cc in rw (← z) (R.memo r p e) })
  ]

  module _ (S : SortedGraph P g) where
    -- an application whose arguments were raised
    application_raised : (r : ℕ) → r < length g → is_var (vertex g r) ≡ false → (m k : Reading) → Grows m.store k.store → Reads P L names g k → (ps : List ℕ) → RaisedToAll P L names g k.store (vertex g r).args ps
        → (n : Node) → n ≡ record { head = (vertex g r).head; args = ps }
        → RaisesOne r m (record { pattern = some (intern k.store n).number; reading = record { memo = pairing r (intern k.store n).number ∷ k.memo; store = (intern k.store n).store } })
    unfolding is_var is_variable
    application_raised r l v m k G R ps A n e =
        let h = (vertex g r).head in
        let xs = (vertex g r).args in
        let hd : n.head ≡ h = ap (λ (n : Node). n.head) e in
        let ar : n.args ≡ ps = ap (λ (n : Node). n.args) e in
        let w : is_variable n ≡ false = rw hd v in
        let q = raised_sorts P L names g k.store xs ps (symbol_of P h).inputs ((S r l).sorts v) A in
        let H = intern_application P k.store n w R.store (rw hd ((S r l).head v)) (rw (hd, ar) q) in
        let t = (intern k.store n).store in
        let p = (intern k.store n).number in
        let T : RaisedTo P L names g t r p = record {
          within = H.within;
          sort = H.sort ∙ ap (λ (y : ℕ). (symbol_of P y).output) hd ∙ sym (sort_at-applied P g r v);
          spoken = over p H.within (ap is_variable H.is ∙ w) ps (ap (λ (n : Node). n.args) H.is ∙ ar)
              (raised_spoken P L names g t xs ps (raised_all-grow P L names g k.store t H.grows xs ps A));
        } in
        record {
          grows = grows_then m.store k.store t G H.grows;
          reads = reads_more P L names g (record { memo = k.memo; store = t }) r p T (reads_grow P L names g k t H.grows H.sorted R);
          pattern = λ o f. let z : p ≡ o = cc in rw (← z) T;
        }

    -- a root that the memo hasn't
    anew_raised : (deeper : List ℕ → Reading → Raised) → ((ys : List ℕ) (k : Reading) → Below (length g) ys → Reads P L names g k → RaisesAll ys k (deeper ys k))
        → (r : ℕ) → r < length g → (m : Reading) → Reads P L names g m → RaisesOne r m (raise_root L g deeper r m)
    unfolding raise_root
    anew_raised deeper ih r l m R = elim (see (is_var (vertex g r))) [
      | is true v ↦ elim (see (eqb r node_of_l)) [
        | is true e ↦
            let q : node_of_l ≡ r = sym (eqb-true r node_of_l e) in
            let T : RaisedTo P L names g m.store r L = record { within = R.eigen; sort = R.eigen-sort ∙ ap (sort_at P g) q; spoken = is_L L refl } in
            rw (v, e, raise_root) (record { grows = grows_none m.store; reads = reads_more P L names g m r L T R; pattern = λ p f. let z : L ≡ p = cc in rw (← z) T })
        | is false e ↦ rw (v, e, raise_root) (none_raised r m m (grows_none m.store) R)
      ]
      | is false v ↦
          let args = deeper (vertex g r).args m in
          let A = ih (vertex g r).args m (S r l).below R in
          elim (see args.patterns) [
            | is none e ↦ rw (v, e, raise_root) (none_raised r m args.reading A.grows A.reads)
            | is (some ps) e ↦ rw (v, e, raise_root) (application_raised r l v m args.reading A.grows A.reads ps (A.patterns ps e) (record { head = (vertex g r).head; args = ps }) refl)
          ]
    ]

    -- nodes of the graph raised, however many levels are left: a well-sorted store that has grown, and patterns beside them if all were raised
    pub raise_sorted : (d : ℕ) (xs : List ℕ) (m : Reading) → Below (length g) xs → Reads P L names g m → RaisesAll xs m (raise d L g xs m)
    unfolding raise
    raise_sorted zero [] m b R = record { grows = grows_none m.store; reads = R; patterns = λ ps e. let z : [] ≡ ps = cc in rw (← z) tt }
    raise_sorted zero (x ∷ xs) m b R =
        let r = root g x in
        let anew : ℕ → Reading → RaisedOne = λ r k. raises_none k in
        next_raised x xs m (raise_one anew r m) (root_raised x r (root-sort P g S x b.0) m (raise_one anew r m) (asked_raised anew r m R (none_raised r m m (grows_none m.store) R)))
        (λ k. raise zero L g xs k) (λ k Q. raise_sorted zero xs k b.1 Q)
    raise_sorted (suc d) [] m b R = record { grows = grows_none m.store; reads = R; patterns = λ ps e. let z : [] ≡ ps = cc in rw (← z) tt }
    raise_sorted (suc d) (x ∷ xs) m b R =
        let r = root g x in
        let anew : ℕ → Reading → RaisedOne = λ r k. raise_root L g (λ ys l. raise d L g ys l) r k in
        let A = anew_raised (λ ys l. raise d L g ys l) (λ ys k c Q. raise_sorted d ys k c Q) r (root_inside P g S x b.0) m R in
        next_raised x xs m (raise_one anew r m) (root_raised x r (root-sort P g S x b.0) m (raise_one anew r m) (asked_raised anew r m R A))
        (λ k. raise (suc d) L g xs k) (λ k Q. raise_sorted (suc d) xs k b.1 Q)
