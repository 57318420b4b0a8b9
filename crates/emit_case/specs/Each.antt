-- The loop over the variables of L's sort: what is left to suppose gives what the whole gives.
use Rattle.std.specs.Prelude.{◌≡◌, refl, true, false, List, [], ◌∷◌, ℕ, suc, ◌+◌, ◌≤◌, ◌<◌, eqb, length, get_or, set, take, drop}
use Rattle.std.proofs.Common.{sym, ap, subst, ◌∙◌, arith, eqb-true, drop_of_length-le, drop-cons, get_or-set_same, get_or-set_other, get_or-take, length-take-le}
use Rattle.std.proofs.Math.Option.{some}
use Rattle.std.proofs.Math.Decide.{ℕ_discrete}
use Rattle.definition.specs.Test.{is, see}
use Rattle.definition.specs.Pack.{prop}
use Rattle.definition.specs.Verdict.{Bound, value_of}
use Rattle.definition.specs.Analysis.{pairing}
use Rattle.definition.specs.Frame.{Read, refuse}
use Rattle.definition.specs.Run.{outcome}
use Rattle.definition.specs.declared.Refusal.{Refusal}
use Rattle.emission.specs.State.{Emitter, Setting, Tried}
use Rattle.emission.specs.Induct.{suppose}
use Rattle.emit_theory.specs.Writes.{each_more}
use Rattle.emit_theory.specs.Search.Proving.{Has, States, has_on, supposed_on}
use Rattle.emit_theory.specs.Search.Inducting.{LikeL, like_more, like_on}
use Rattle.emit_maps.specs.Holds.{Covers, without, listed}
use Rattle.emit_state.specs.Holding.{Buffers, World, Holding, Ready, got}
use Rattle.emit_state.specs.Turns.{then_got, then_refused}
use Rattle.emit_state.specs.Onward.{goes_on}
use Rattle.emit_state.specs.declared.places.Places.{Places}
use Rattle.emit_state.specs.declared.standing.Standing.{Standing}
use Rattle.emit_case.specs.Asked.{Given, Termed, Recursive}
use Rattle.emit_case.specs.Runs.{suppose_one}
use Rattle.emit_case.specs.Supposing.{supposing}
use Rattle.emit_case.specs.Putting.{len_is}
use Rattle.emit_case.specs.One.{one_of_more, one_comes}
use Rattle.emit_case.specs.declared.goal.Inducting.{Inducting}

-- ---- the patterns that are listed
-- without hypotheses there is nothing to list
covers_none : (hs : List ℕ) → Covers hs 0 []
unfolding value_of
covers_none hs = record { covered = λ p. without refl }

-- one more is listed in its place
covers_more : (hs : List ℕ) (i h n : ℕ) (hyps : List Bound) → i < length hs → Covers hs i hyps → Covers (set hs i h) (i + 1) (pairing h n ∷ hyps)
unfolding value_of
covers_more hs i h n hyps l C = record {
  covered = λ p. elim (see (eqb h p)) [
    | is true k ↦ listed i (omega arith) (get_or-set_same hs i h 0 l ∙ eqb-true h p k)
    | is false k ↦ elim (C.covered p) [
      | without z ↦ without (rw (k, value_of) z)
      | listed t a q ↦ listed t (omega arith) (get_or-set_other hs i t h 0 (omega arith) ∙ q)
    ]
  ];
}

-- the front alone lists them
pub covers_front : (hs : List ℕ) (n : ℕ) (hyps : List Bound) → n ≤ length hs → Covers hs n hyps → Covers (take n hs) (length (take n hs)) hyps
covers_front hs n hyps l C = record {
  covered = λ p. elim (C.covered p) [
    | without z ↦ without z
    | listed t a q ↦ listed t (omega (arith, length-take-le n hs l)) (get_or-take n hs t 0 a ∙ q)
  ];
}

-- ---- the loop
pub record SupposedLeft (b : Buffers) (l : Places) (t : Standing) (w : World) (g : Inducting) (rs hs : List ℕ) (i : ℕ) (whole : Read (Tried (List Bound))) : Type 0 where
  pub hyps : List Bound
  pub state : Emitter
  pub ready : Ready b l t (supposing hyps w) state
  pub many : length hyps ≡ i
  pub given : Given g w state
  pub like : LikeL w.setting state (drop i rs)
  pub covers : Covers hs i hyps
  pub below : (k : ℕ) → k < i → get_or hs k 0 < length state.kept.store
  pub rest : outcome w.lent (suppose w.setting g.judgment (drop i rs) hyps state) ≡ whole

-- the first and the others
like_first : (S : Setting) (e : Emitter) (v : ℕ) (vs : List ℕ) → LikeL S e (v ∷ vs) → Has S e S.sort v × LikeL S e vs
like_first S e v vs (like_more _ _ h hs) = (h, hs)

-- none is supposed yet
pub supposed-first : (b : Buffers) (l : Places) (m : Standing) (w : World) (e : Emitter) (g : Inducting) (rs hs : List ℕ) → Ready b l m w e → w.hyps ≡ [] → Recursive g rs w e
    → SupposedLeft b l m w g rs hs 0 (outcome w.lent (suppose w.setting g.judgment rs [] e))
supposed-first b l m w e g rs hs R alone Q = record {
  hyps = [];
  state = e;
  ready = subst (λ (zs : List Bound). Ready b l m (supposing zs w) e) alone R;
  many = refl;
  given = Q.given;
  like = Q.like;
  covers = covers_none hs;
  below = λ k h. absurd (omega arith);
  rest = refl;
}

module _ (b : Buffers) (l : Places) (t : Standing) (w : World) (g : Inducting) (rs hs : List ℕ) (i : ℕ) (whole : Read (Tried (List Bound))) (G : SupposedLeft b l t w g rs hs i whole) where
  -- all are
  pub supposed-all : length rs ≤ i → outcome w.lent (suppose w.setting g.judgment [] G.hyps G.state) ≡ whole
  supposed-all h = sym (ap (λ (vs : List ℕ). outcome w.lent (suppose w.setting g.judgment vs G.hyps G.state)) (drop_of_length-le rs h)) ∙ G.rest

  module _ (h : i < length rs) where
    -- the next one
    here : drop i rs ≡ get_or rs i 0 ∷ drop (suc i) rs
    here = drop-cons rs i 0 h

    -- it is of L's sort, and so are the others
    both : Has w.setting G.state w.setting.sort (get_or rs i 0) × LikeL w.setting G.state (drop (suc i) rs)
    both = like_first w.setting G.state (get_or rs i 0) (drop (suc i) rs) (subst (λ (vs : List ℕ). LikeL w.setting G.state vs) here G.like)

    -- the next is of L's sort
    pub next_termed : Termed g (get_or rs i 0) (supposing G.hyps w) G.state
    next_termed = record { given = record { eigen = G.given.eigen; sort = G.given.sort; has = G.given.has }; of_sort = both.0 }

    -- what is left begins with it
    rest_here : outcome w.lent (suppose w.setting g.judgment (get_or rs i 0 ∷ drop (suc i) rs) G.hyps G.state) ≡ whole
    rest_here = sym (ap (λ (vs : List ℕ). outcome w.lent (suppose w.setting g.judgment vs G.hyps G.state)) here) ∙ G.rest

    -- a buffer is short
    pub supposed-refused : (x : Refusal) → outcome w.lent (suppose_one w.setting (get_or rs i 0) g.judgment G.state) ≡ refuse x → whole ≡ refuse x
    supposed-refused x q =
        sym rest_here ∙ one_of_more w.lent w.setting (get_or rs i 0) g.judgment G.state (drop (suc i) rs) G.hyps
        ∙ then_refused w.lent (suppose_one w.setting (get_or rs i 0) g.judgment) (λ z. suppose w.setting g.judgment (drop (suc i) rs) (z ∷ G.hyps)) G.state x q

    -- it is supposed
    module _ (b' : Buffers) (u : Standing) (p n : ℕ) (e : Emitter) (q : outcome w.lent (suppose_one w.setting (get_or rs i 0) g.judgment G.state) ≡ got (pairing p n) e)
        (H : Holding b' l u (supposing (pairing p n ∷ G.hyps) w) e) (grown : t.store.len ≤ u.store.len) (room : i < length hs) where
      pub supposed-more : SupposedLeft b' l u w g rs (set hs i p) (i + 1) whole
      supposed-more =
          let S = w.setting in
          let P = G.ready.holding.proper in
          let Q : Bound → Emitter → Type 0 = λ x e₁. States x.variable x.value e₁ in
          let D : Tried Bound = record { result = some (pairing p n); state = e } in
          let O = goes_on w.lent S Q (suppose_one S (get_or rs i 0) g.judgment) G.state D (one_comes S P.good P.few (get_or rs i 0) g.judgment G.state G.ready.sound both.0 G.given.has) q in
          let T : States p n e = O.holds (pairing p n) refl in
          let k : i + 1 ≡ suc i = omega arith in
          let long : length G.state.kept.store ≤ length e.kept.store = omega (arith, grown, len_is b l t (supposing G.hyps w) G.state G.ready.holding, len_is b' l u (supposing (pairing p n ∷ G.hyps) w) e H) in
          record {
            hyps = pairing p n ∷ G.hyps;
            state = e;
            ready = record { holding = H; sound = O.sound; supposed = each_more (λ x y. States x y e) p n G.hyps T (supposed_on G.state e O.grew G.hyps G.ready.supposed) };
            many = omega (arith, G.many);
            given = record { eigen = G.given.eigen; sort = G.given.sort; has = has_on S G.state e O.grew prop g.judgment G.given.has };
            like = subst (λ (j : ℕ). LikeL S e (drop j rs)) (sym k) (like_on S P.good P.few G.state e O.grew (drop (suc i) rs) both.1);
            covers = covers_more hs i p n G.hyps room G.covers;
            below = λ j a. elim (ℕ_discrete i j) [
              | yes z ↦ omega (arith, T.stored, ap (λ (x : ℕ). get_or (set hs i p) x 0) (sym z) ∙ get_or-set_same hs i p 0 room)
              | no d ↦ omega (arith, G.below j (omega arith), get_or-set_other hs i j p 0 (λ z. d (sym z)), long)
            ];
            rest = ap (λ (j : ℕ). outcome w.lent (suppose S g.judgment (drop j rs) (pairing p n ∷ G.hyps) e)) k
                ∙ sym (then_got w.lent (suppose_one S (get_or rs i 0) g.judgment) (λ z. suppose S g.judgment (drop (suc i) rs) (z ∷ G.hyps)) G.state (pairing p n) e q)
                ∙ sym (one_of_more w.lent S (get_or rs i 0) g.judgment G.state (drop (suc i) rs) G.hyps) ∙ rest_here;
          }
