-- The open symbols on a stack of words, one behind the other.
use Rattle.std.specs.Prelude.{◌≡◌, refl, List, [], ◌∷◌, ℕ, suc, ◌+◌, ◌-◌, ◌≤◌, ◌<◌, length, get_or, set}
use Rattle.std.proofs.Common.{sym, ap, ◌∙◌, arith, length-set, length-append, get_or-set_same, get_or-set_other}
use Rattle.std.proofs.Math.Decide.{dec_lt}
use Rattle.std.proofs.Math.ListN.{get_or-append}
use Rattle.std.proofs.lemmas.List.{get_or_at}
use Rattle.definition.specs.Pack.{Term, Terms, cons}
use Rattle.definition.specs.Certificate.{count}
use Rattle.base.specs.Part.{part, part_is, part-lent}
use Rattle.memo.specs.Lent.{lent}
use Rattle.emit_premises.specs.Open.{Opened, giving}
use Rattle.emit_premises.specs.declared.building.Building.{Building}

-- an open symbol has so many words beside the patterns of its terms
abbrev pub frame_words : ℕ
frame_words = 3

-- the stack's words
abbrev pub stack_words : ℕ
stack_words = 771

-- numbers far below what a word can say
abbrev pub word_limit : ℕ
word_limit = 65536

-- the words of a symbol that is opened, with no pattern yet
abbrev pub opening : List ℕ → ℕ → ℕ → ℕ → ℕ → List ℕ
opening stack base top h arity = set (set (set stack top base) (top + 1) (top + 3 + arity)) (top + 2) h

-- the state once a symbol was opened
abbrev pub opened : Building → Building
opened b = record { store = b.store; base = b.top; top = b.top + 3; next = b.next + 1 }

-- once a variable's value was given
abbrev pub given : Building → Building
given b = record { store = b.store; base = b.base; top = b.top + 1; next = b.next + 1 }

-- an open symbol's words from base up to top, while so many of its terms are open themselves
pub record Frame (stack : List ℕ) (f : Opened) (waits base top : ℕ) : Type 0 where
  pub ends : top ≡ base + 3 + length f.given
  pub full : get_or stack (base + 1) 0 ≡ top + waits + count f.left
  pub head : get_or stack (base + 2) 0 ≡ f.head
  pub terms : (i : ℕ) → i < length f.given → get_or stack (base + 3 + i) 0 ≡ get_or f.given i 0

-- the open symbols around one that starts at top; the innermost of them starts at base
abbrev pub Around : List ℕ → List Opened → ℕ → ℕ → Type 0
Around stack [] base top = top ≡ 0
Around stack (f ∷ fs) base top = Frame stack f 1 base top × Around stack fs (get_or stack base 0) base

-- the words below n are the same
abbrev pub SameBelow : ℕ → List ℕ → List ℕ → Type 0
SameBelow n stack stack' = (i : ℕ) → i < n → get_or stack' i 0 ≡ get_or stack i 0

-- a word is written from n on
pub same_set : (n : ℕ) (stack : List ℕ) (i v : ℕ) → n ≤ i → SameBelow n stack (set stack i v)
same_set n stack i v h j l = get_or-set_other stack i j v 0 (λ q. omega (arith, q))

module _ (stack stack' : List ℕ) where
  -- what stands below n stays
  pub frame_same : (f : Opened) (waits base top n : ℕ) → top ≤ n → SameBelow n stack stack' → Frame stack f waits base top → Frame stack' f waits base top
  frame_same f waits base top n h s F = record {
    ends = F.ends;
    full = s (base + 1) (omega (arith, F.ends)) ∙ F.full;
    head = s (base + 2) (omega (arith, F.ends)) ∙ F.head;
    terms = λ i l. s (base + 3 + i) (omega (arith, F.ends)) ∙ F.terms i l;
  }

  -- so do the open symbols around it
  pub around-same : (fs : List Opened) (base top n : ℕ) → top ≤ n → SameBelow n stack stack' → Around stack fs base top → Around stack' fs base top
  around-same [] base top n h s A = A
  around-same (f ∷ fs) base top n h s A =
      let e : get_or stack' base 0 ≡ get_or stack base 0 = s base (omega (arith, A.0.ends)) in
      (frame_same f 1 base top n h s A.0, rw e (around-same fs (get_or stack base 0) base n (omega (arith, A.0.ends)) s A.1))

-- a term is begun
pub frame_waits : (stack : List ℕ) (h : ℕ) (got : List ℕ) (t : Term) (ts : Terms) (base top : ℕ) → Frame stack (record { head = h; given = got; left = cons t ts }) 0 base top → Frame stack (record { head = h; given = got; left = ts }) 1 base top
unfolding count
frame_waits stack h got t ts base top F = record { ends = F.ends; full = F.full ∙ omega arith; head = F.head; terms = F.terms }

-- a term is built
pub frame_gives : (stack : List ℕ) (f : Opened) (base top p : ℕ) → top < length stack → Frame stack f 1 base top → Frame (set stack top p) (giving p f) 0 base (top + 1)
frame_gives stack f base top p l F =
    let s = same_set top stack top p (omega arith) in
    let e = length-append f.given (p ∷ []) in
    record {
      ends = omega (arith, F.ends);
      full = s (base + 1) (omega (arith, F.ends)) ∙ F.full ∙ omega arith;
      head = s (base + 2) (omega (arith, F.ends)) ∙ F.head;
      terms = λ i h. elim (dec_lt i (length f.given)) [
        | yes k ↦ s (base + 3 + i) (omega (arith, F.ends)) ∙ F.terms i k ∙ sym (get_or-append f.given (p ∷ []) 0 i k)
        | no k ↦
            let j : i ≡ length f.given = omega arith in
            let q : base + 3 + i ≡ top = omega (arith, F.ends) in
            ap (λ (x : ℕ). get_or (set stack top p) x 0) q ∙ get_or-set_same stack top p 0 l ∙ sym (get_or_at f.given p [] 0 i (sym j))
      ];
    }

-- a symbol is opened
module _ (stack : List ℕ) (base top h : ℕ) (ts : Terms) (arity : ℕ) (room : top + 3 ≤ length stack) (many : count ts ≡ arity) where
  -- the stack with it
  abbrev after : List ℕ
  after = opening stack base top h arity

  -- what stood there stays
  pub opening-below : SameBelow top stack after
  opening-below i l =
      same_set top (set (set stack top base) (top + 1) (top + 3 + arity)) (top + 2) h (omega arith) i l
      ∙ same_set top (set stack top base) (top + 1) (top + 3 + arity) (omega arith) i l
      ∙ same_set top stack top base (omega arith) i l

  -- its first word says where the one around it starts
  pub opening-link : get_or after top 0 ≡ base
  opening-link =
      same_set (top + 1) (set (set stack top base) (top + 1) (top + 3 + arity)) (top + 2) h (omega arith) top (omega arith)
      ∙ same_set (top + 1) (set stack top base) (top + 1) (top + 3 + arity) (omega arith) top (omega arith)
      ∙ get_or-set_same stack top base 0 (omega arith)

  -- it has no pattern yet
  pub frame_opens : Frame after (record { head = h; given = []; left = ts }) 0 top (top + 3)
  frame_opens =
      let l₁ = length-set stack top base in
      let l₂ = length-set (set stack top base) (top + 1) (top + 3 + arity) in
      record {
        ends = omega arith;
        full =
            same_set (top + 2) (set (set stack top base) (top + 1) (top + 3 + arity)) (top + 2) h (omega arith) (top + 1) (omega arith)
            ∙ get_or-set_same (set stack top base) (top + 1) (top + 3 + arity) 0 (omega arith) ∙ omega (arith, many);
        head = get_or-set_same (set (set stack top base) (top + 1) (top + 3 + arity)) (top + 2) h 0 (omega arith);
        terms = λ i l. absurd (omega arith);
      }

-- a symbol and its terms' patterns, as they are lent
pub frame-key : (stack : List ℕ) (f : Opened) (waits base top : ℕ) → top ≤ length stack → Frame stack f waits base top → lent (base + 2) top stack ≡ f.head ∷ f.given
unfolding part
frame-key stack f waits base top h F =
    part-lent (base + 2) top (suc (length f.given)) stack (omega (arith, F.ends))
    ∙ part_is (base + 2) (suc (length f.given)) stack (f.head ∷ f.given) (omega (arith, F.ends)) refl (λ i l. elim (dec_lt 0 i) [
      | yes k ↦
          let e : base + 2 + i ≡ base + 3 + (i - 1) = omega arith in
          let g : suc (i - 1) ≡ i = omega arith in
          ap (λ (x : ℕ). get_or stack x 0) e ∙ F.terms (i - 1) (omega arith) ∙ ap (λ (x : ℕ). get_or (f.head ∷ f.given) x 0) g
      | no k ↦
          let e : base + 2 + i ≡ base + 2 = omega arith in
          let g : 0 ≡ i = omega arith in
          ap (λ (x : ℕ). get_or stack x 0) e ∙ F.head ∙ ap (λ (x : ℕ). get_or (f.head ∷ f.given) x 0) g
    ])

-- the patterns alone
pub frame_terms : (stack : List ℕ) (f : Opened) (waits base top : ℕ) → top ≤ length stack → Frame stack f waits base top → part (base + 3) (length f.given) stack ≡ f.given
frame_terms stack f waits base top h F = part_is (base + 3) (length f.given) stack f.given (omega (arith, F.ends)) refl F.terms
