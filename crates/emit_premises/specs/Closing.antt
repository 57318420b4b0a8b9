-- What it comes to that all terms of the innermost open symbol are built: it is a node of the one around it, or there is none around it.
use Rattle.std.specs.Prelude.{Option as Optional, Some, None}
use Rattle.std.specs.Prelude.{◌≡◌, refl, ℕ, ◌+◌, ◌-◌, ◌≤◌, ◌<◌, length, get_or, set}
use Rattle.std.proofs.Common.{sym, ap, subst, ◌∙◌, arith, length-append}
use mathlib.Core.List.{List, [], ◌∷◌, append_assoc}
use Rattle.definition.specs.Pack.{Terms, nil, Node, Pack, rule_of}
use Rattle.definition.specs.Verdict.{Bound}
use Rattle.definition.specs.Store.{Stored as Placing, intern, pattern_words}
use Rattle.definition.proofs.Laws.Prefix.{term_words, terms_words}
use Rattle.emission.specs.Patterns.{BuiltAll}
use Rattle.theory.specs.Patterns.Interned.{Grows, with}
use Rattle.base.specs.Part.{part, put}
use Rattle.base.specs.declared.id.Pattern.{Pattern}
use Rattle.pack_read.specs.Held.{Proper}
use Rattle.store.specs.Words.{node_with, node_of_law, words_append}
use Rattle.store.specs.Stored.{Answer, nodes}
use Rattle.store.specs.declared.nodes.Store.{Store}
use Rattle.memo.specs.Lent.{lent, lent_long, back-lent, back_outside}
use Rattle.emit_match.specs.declared.places.Matching.{Matching}
use Rattle.emit_premises.specs.Open.{Opened, giving, whole, whole_close, whole-done, whole_grows}
use Rattle.emit_premises.specs.Frames.{frame_gives, frame-key, frame_terms, around-same, same_set}
use Rattle.emit_premises.specs.Amid.{Amid, lefts, wants_none, room_there}
use Rattle.emit_premises.specs.Turned.{Goes, GivenOn, made_of, CloseAsked, Closed}
use Rattle.emit_premises.specs.declared.building.Building.{Building}
use Rattle.emit_premises.specs.declared.turn.Turn.{Turn}
use Rattle.emit_premises.specs.declared.turn.Turn.TheVariants.{Next, Full, Lacks}

-- more nodes have no fewer words
pub grown-words : (s t : List Node) → Grows s t → length (pattern_words s) ≤ length (pattern_words t)
grown-words s t (with more e) = omega (arith, ap (λ (u : List Node). length (pattern_words u)) e, ap length (words_append s more), length-append (pattern_words s) (pattern_words more))

module _ (P : Pack) (Q : Proper P) (r : ℕ) (l : r < length P.rules) (stack : List ℕ) (long : length stack ≡ 771) (b : Building) (h : ℕ) (got : List ℕ) where
  -- a symbol all of whose terms are built
  abbrev full : Opened
  full = record { head = h; given = got; left = nil }

  -- ---- there is one around it
  module _ (g : Opened) (gs : List Opened) (A : Amid P r stack b full (g ∷ gs)) where
    -- where that starts
    abbrev link : ℕ
    link = get_or stack b.base 0

    -- what is interned is its node
    node_is : (words : List ℕ) → made_of words stack b ≡ intern (nodes words b.store) (record { head = h; args = got })
    node_is words =
        let m = room_there P Q r l stack long b full (g ∷ gs) A in
        ap (λ (key : List ℕ). intern (nodes words b.store) (node_with key)) (frame-key stack full 0 b.base b.top (omega (arith, m.0)) A.frame)
        ∙ ap (intern (nodes words b.store)) (node_of_law (record { head = h; args = got }))

    -- once its pattern is given to the one around it
    closed : (st : Store) (n : ℕ) → Amid P r (set stack b.base n) (record { store = st; base = link; top = b.base + 1; next = b.next }) (giving n g) gs
    unfolding terms_words
    closed st n =
        let m = room_there P Q r l stack long b full (g ∷ gs) A in
        let s = same_set b.base stack b.base n (omega arith) in
        let F = A.around.0 in
        record {
          frame = frame_gives stack g link b.base n (omega (arith, m.0, m.1)) F;
          around = rw (s link (omega (arith, F.ends))) (around-same stack (set stack b.base n) gs (get_or stack link 0) link b.base (omega (arith, F.ends)) s A.around.1);
          words = A.words ∙ append_assoc (terms_words g.left) (lefts gs) (term_words (rule_of P r).conclusion);
          sorted = A.others.0;
          others = A.others.1;
          room = omega (arith, A.room, m.1);
          early = A.early;
        }

    -- what giving it comes to
    closes : (bs : List Bound) (words words' stack' : List ℕ) (t : Optional Turn) → GivenOn words words' stack stack' b t → Goes P r bs words words' stack stack' b full (g ∷ gs) t
    closes bs words words' stack' (Some (Next b')) K =
        let m = room_there P Q r l stack long b full (g ∷ gs) A in
        let n : ℕ = (made_of words stack b).number in
        let made = ap (λ (x : Placing). whole (giving x.number g) gs bs x.store) (node_is words) in (
          giving n g,
          gs,
          rw (K.0, K.1) (closed b'.store n),
          whole_close h got bs (nodes words b.store) g gs ∙ sym made ∙ ap (whole (giving n g) gs bs) (sym K.2),
          omega (arith, ap (λ (x : Building). x.top) K.0, ap (λ (x : Building). x.next) K.0, m.1),
        )
    closes bs words words' stack' (Some Full) K = absurd K
    closes bs words words' stack' (Some Lacks) K = absurd K
    closes bs words words' stack' None K =
        let n = intern (nodes words b.store) (record { head = h; args = got }) in
        let e = ap (λ (x : Placing). length (pattern_words x.store)) (node_is words) in
        let c = ap (λ (x : BuiltAll). length (pattern_words x.store)) (whole_close h got bs (nodes words b.store) g gs) in
        let w = grown-words n.store (whole (giving n.number g) gs bs n.store).store (whole_grows (giving n.number g) gs bs n.store) in
        omega (arith, K, e, c, w)

  -- ---- there is none around it
  done : (A : Amid P r stack b full []) → (bs : List Bound) (words : List ℕ) → Goes P r bs words words stack stack b full [] (Some Full)
  done A bs words =
      let m = room_there P Q r l stack long b full [] A in
      let z : b.base ≡ 0 = A.around in
      let e : b.base + 3 ≡ 3 = omega (arith, z) in
      (got, whole-done h got bs (nodes words b.store), ap (λ (k : ℕ). part k (length got) stack) (sym e) ∙ frame_terms stack full 0 b.base b.top (omega (arith, m.0)) A.frame, omega (arith, A.frame.ends, m.0))

module _ (P : Pack) (Q : Proper P) (r : ℕ) (l : r < length P.rules) (stack : List ℕ) (long : length stack ≡ 771) (b : Building) where
  -- no term is left
  split : (h : ℕ) (got : List ℕ) (left : Terms) (fs : List Opened) → left ≡ nil → Amid P r stack b (record { head = h; given = got; left = left }) fs → Amid P r stack b (full P Q r l stack long b h got) fs
  split h got left fs e A = subst (λ (us : Terms). Amid P r stack b (record { head = h; given = got; left = us }) fs) e A

  module _ (f : Opened) (all : get_or stack (b.base + 1) 0 ≡ b.top) (bs : List Bound) (words : List ℕ) where
    -- the symbol with these terms left
    abbrev ending : Terms → Opened
    ending us = record { head = f.head; given = f.given; left = us }

    -- the innermost is the outermost
    pub done_goes : (fs : List Opened) → Amid P r stack b f fs → b.base ≡ 0 → Goes P r bs words words stack stack b f fs (Some Full)
    done_goes [] A z =
        let e = wants_none stack f b.base b.top A.frame all in
        subst (λ (us : Terms). Goes P r bs words words stack stack b (ending us) [] (Some Full)) (sym e) (done P Q r l stack long b f.head f.given (split f.head f.given f.left [] e A) bs words)
    done_goes (g ∷ gs) A z = absurd (omega (arith, A.around.0.ends, z))

    -- it isn't
    pub close_goes : (fs : List Opened) → Amid P r stack b f fs → (b.base ≡ 0 → ⊥) → (words' stack' : List ℕ) (t : Optional Turn) → GivenOn words words' stack stack' b t → Goes P r bs words words' stack stack' b f fs t
    close_goes [] A z words' stack' t K = absurd (z A.around)
    close_goes (g ∷ gs) A z words' stack' t K =
        let e = wants_none stack f b.base b.top A.frame all in
        subst (λ (us : Terms). Goes P r bs words words' stack stack' b (ending us) (g ∷ gs) t) (sym e) (closes P Q r l stack long b f.head f.given g gs (split f.head f.given f.left (g ∷ gs) e A) bs words words' stack' t K)

-- ---- what interning it answers
module _ (work words stack : List ℕ) (m : Matching) (b : Building) (C : CloseAsked work words stack m b) where
  -- the key has a head
  pub key_some : 0 < length (lent (b.base + 2) b.top stack)
  key_some = omega (arith, lent_long (b.base + 2) b.top stack (omega (arith, C.ends)) C.room, C.ends)

  module _ (ys words' : List ℕ) (long : length ys ≡ length (lent m.index m.end work)) where
    -- there is room for it
    pub closed_made : (p : Pattern) (st : Store) → Answer (lent m.index m.end work) words ys words' b.store (lent (b.base + 2) b.top stack) (Some (p, st))
        → Closed work (put m.index (m.end - m.index) ys work) words words' stack (set stack b.base p.0) m b (Some (Next (record { store = st; base = get_or stack b.base 0; top = b.base + 1; next = b.next })))
    closed_made p st K = (
      (refl, ap (λ (n : ℕ). set stack b.base n) K.0, K.1),
      (back_outside m.index m.end work C.order C.fits ys long, rw (back-lent m.index m.end work C.order C.fits ys long) K.3),
    )

    -- there is none
    pub closed_short : Answer (lent m.index m.end work) words ys words' b.store (lent (b.base + 2) b.top stack) None
        → Closed work (put m.index (m.end - m.index) ys work) words words' stack stack m b None
    closed_short K = (K.0, (back_outside m.index m.end work C.order C.fits ys long, tt))
