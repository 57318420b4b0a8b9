-- A rule's premises being built: its next word, the open symbols on the stack, and the terms that they still want.
use Rattle.std.specs.Prelude.{◌≡◌, ℕ, ◌+◌, ◌-◌, ◌*◌, ◌≤◌, ◌<◌, length, get_or, set, drop}
use Rattle.std.proofs.Common.{sym, ◌∙◌, add-one, arith, length-append, length-drop, drop-cons}
use Rattle.std.proofs.Math.Path.{ap}
use mathlib.Core.List.{List, [], ◌∷◌, ◌++◌, append_assoc}
use Rattle.definition.specs.Pack.{Terms, var, app, nil, cons, Pack, symbol_of, rule_of}
use Rattle.definition.specs.Theory.{variable}
use Rattle.definition.specs.Certificate.{count}
use Rattle.definition.specs.Good.{SortedAll}
use Rattle.definition.proofs.Laws.Prefix.{term_words, terms_words}
use Rattle.definition.proofs.Laws.Suffix.{term_some, sorts-many, none_left}
use Rattle.pack_read.specs.Reads.{rule_words}
use Rattle.pack_read.specs.Held.{Proper}
use Rattle.pack_read.specs.Clause.{words-most}
use Rattle.emit_premises.specs.Open.{Opened, giving}
use Rattle.emit_premises.specs.Frames.{Frame, Around, opening, opened, given, frame_waits, frame_gives, frame_opens, frame_same, around-same, same_set, opening-below, opening-link}
use Rattle.emit_premises.specs.declared.building.Building.{Building}

-- the words of the terms that open symbols still want, the innermost symbol's first
abbrev pub lefts : List Opened → List ℕ
lefts [] = []
lefts (f ∷ fs) = terms_words f.left ++ lefts fs

-- these terms are well sorted
abbrev pub LeftSorted : Pack → List ℕ → Opened → Type 0
LeftSorted P vars f = (ss : List ℕ) × SortedAll P vars f.left ss

-- those of each open symbol are
abbrev pub AllLeftSorted : Pack → List ℕ → List Opened → Type 0
AllLeftSorted P vars [] = Unit {0}
AllLeftSorted P vars (f ∷ fs) = LeftSorted P vars f × AllLeftSorted P vars fs

-- f is the innermost open symbol, the others are around it
pub record Amid (P : Pack) (r : ℕ) (stack : List ℕ) (b : Building) (f : Opened) (fs : List Opened) : Type 0 where
  pub frame : Frame stack f 0 b.base b.top
  pub around : Around stack fs (get_or stack b.base 0) b.base
  pub words : drop b.next (rule_words (rule_of P r)) ≡ terms_words f.left ++ (lefts fs ++ term_words (rule_of P r).conclusion)
  pub sorted : LeftSorted P (rule_of P r).vars f
  pub others : AllLeftSorted P (rule_of P r).vars fs
  pub room : b.top ≤ 3 + 3 * b.next
  pub early : b.next ≤ 256

-- what falls with each turn
abbrev pub to_come : Building → ℕ
to_come b = 4 * (256 - b.next) + b.top

-- two lists that are the same begin with the same
heads : {a c : ℕ} {xs ys : List ℕ} → ◌≡◌ {A = List ℕ} (a ∷ xs) (c ∷ ys) → (a ≡ c) × (xs ≡ ys)
heads e = (cc, cc)

-- a term more is wanted
pub wants : (stack : List ℕ) (f : Opened) (base top : ℕ) → Frame stack f 0 base top → (get_or stack (base + 1) 0 ≡ top → ⊥) → count f.left ≡ 0 → ⊥
wants stack f base top F d z = d (F.full ∙ omega (arith, z))

-- none is
pub wants_none : (stack : List ℕ) (f : Opened) (base top : ℕ) → Frame stack f 0 base top → get_or stack (base + 1) 0 ≡ top → f.left ≡ nil
wants_none stack f base top F e = none_left f.left (omega (arith, F.full, e))

module _ (P : Pack) (Q : Proper P) (r : ℕ) (l : r < length P.rules) (stack : List ℕ) (long : length stack ≡ 771) (b : Building) where
  -- the rule's words and its variables
  abbrev pub W : List ℕ
  W = rule_words (rule_of P r)

  abbrev pub vars : List ℕ
  vars = (rule_of P r).vars

  -- the conclusion's words are still to come
  pub word_there : (f : Opened) (fs : List Opened) → Amid P r stack b f fs → b.next < length W
  word_there f fs A =
      let C = term_words (rule_of P r).conclusion in
      omega (arith, ap length A.words, length-drop b.next W, length-append (terms_words f.left) (lefts fs ++ C), length-append (lefts fs) C, term_some (rule_of P r).conclusion)

  -- the stack has room
  pub room_there : (f : Opened) (fs : List Opened) → Amid P r stack b f fs → (b.top + 3 ≤ length stack) × (b.base + 3 ≤ b.top) × (b.next < 256)
  room_there f fs A =
      let w = word_there f fs A in
      let m = words-most P Q.good r l in
      (omega (arith, A.room, long), omega (arith, A.frame.ends), omega arith)

  module _ (h : ℕ) (got : List ℕ) (fs : List Opened) (w : ℕ) (word : w ≡ get_or W b.next 0) where
    abbrev pub now : Terms → Opened
    now us = record { head = h; given = got; left = us }

    -- the next word and those behind it
    cut : (us : Terms) → Amid P r stack b (now us) fs → (x : ℕ) (rest : List ℕ) → drop b.next W ≡ x ∷ rest → (w ≡ x) × (drop (b.next + 1) W ≡ rest)
    cut us A x rest e =
        let g = heads (sym (drop-cons W b.next 0 (word_there (now us) fs A)) ∙ e) in
        (word ∙ g.0, ap (λ (k : ℕ). drop k W) (add-one b.next) ∙ g.1)

    -- what follows a variable
    module _ (k : ℕ) (ts : Terms) (A : Amid P r stack b (now (cons (var k) ts)) fs) where
      -- the word says which, and the words behind it are those of the other terms
      pub variable-cut : (w ≡ variable + k) × (drop (b.next + 1) W ≡ terms_words ts ++ (lefts fs ++ term_words (rule_of P r).conclusion))
      unfolding term_words
      variable-cut = cut (cons (var k) ts) A (variable + k) (terms_words ts ++ (lefts fs ++ term_words (rule_of P r).conclusion)) A.words

      -- it is a variable of the rule, and the other terms are well sorted
      pub variable_sorted : (k < length vars) × LeftSorted P vars (now ts)
      variable_sorted = go A.sorted.0 A.sorted.1
        where
          go : (ss : List ℕ) → SortedAll P vars (cons (var k) ts) ss → (k < length vars) × LeftSorted P vars (now ts)
          go [] S = absurd S
          go (s ∷ ss) S = (S.0.0, (ss, S.1))

      -- once its value is given
      pub variable-given : (p : ℕ) → Amid P r (set stack b.top p) (given b) (giving p (now ts)) fs
      variable-given p =
          let m = room_there (now (cons (var k) ts)) fs A in
          let s = same_set b.top stack b.top p (omega arith) in
          record {
            frame = frame_gives stack (now ts) b.base b.top p (omega (arith, m.0)) (frame_waits stack h got (var k) ts b.base b.top A.frame);
            around = rw (s b.base (omega (arith, m.1))) (around-same stack (set stack b.top p) fs (get_or stack b.base 0) b.base b.top (omega (arith, m.1)) s A.around);
            words = variable-cut.1;
            sorted = variable_sorted.1;
            others = A.others;
            room = omega (arith, A.room);
            early = omega (arith, m.2);
          }

    -- what follows a symbol
    module _ (g : ℕ) (us ts : Terms) (A : Amid P r stack b (now (cons (app g us) ts)) fs) where
      -- the word is its number, and the words behind it are those of its own terms and then of the others
      pub symbol-cut : (w ≡ g) × (drop (b.next + 1) W ≡ terms_words us ++ ((terms_words ts ++ lefts fs) ++ term_words (rule_of P r).conclusion))
      unfolding term_words
      symbol-cut =
          let C = term_words (rule_of P r).conclusion in
          cut (cons (app g us) ts) A g (terms_words us ++ ((terms_words ts ++ lefts fs) ++ C))
          (A.words ∙ ap (λ (x : List ℕ). g ∷ x) (append_assoc (terms_words us) (terms_words ts) (lefts fs ++ C) ∙ ap (λ (x : List ℕ). terms_words us ++ x) (sym (append_assoc (terms_words ts) (lefts fs) C))))

      -- it is a symbol of the pack, and its own terms and the others are well sorted
      pub symbol_sorted : (g < length P.symbols) × SortedAll P vars us (symbol_of P g).inputs × LeftSorted P vars (now ts)
      symbol_sorted = go A.sorted.0 A.sorted.1
        where
          go : (ss : List ℕ) → SortedAll P vars (cons (app g us) ts) ss → (g < length P.symbols) × SortedAll P vars us (symbol_of P g).inputs × LeftSorted P vars (now ts)
          go [] S = absurd S
          go (s ∷ ss) S = (S.0.0, S.0.2, (ss, S.1))

      -- once it is opened
      pub symbol-opened : (arity : ℕ) → arity ≡ length (symbol_of P g).inputs → Amid P r (opening stack b.base b.top g arity) (opened b) (record { head = g; given = []; left = us }) (now ts ∷ fs)
      symbol-opened arity e =
          let m = room_there (now (cons (app g us) ts)) fs A in
          let many : count us ≡ arity = sorts-many P vars us (symbol_of P g).inputs symbol_sorted.1 ∙ sym e in
          let after : List ℕ = opening stack b.base b.top g arity in
          let s = opening-below stack b.base b.top g us arity m.0 many in
          record {
            frame = frame_opens stack b.base b.top g us arity m.0 many;
            around = rw (opening-link stack b.base b.top g us arity m.0 many) (
              frame_same stack after (now ts) 1 b.base b.top b.top (omega arith) s (frame_waits stack h got (app g us) ts b.base b.top A.frame),
              rw (s b.base (omega (arith, m.1))) (around-same stack after fs (get_or stack b.base 0) b.base b.top (omega (arith, m.1)) s A.around),
            );
            words = symbol-cut.1;
            sorted = ((symbol_of P g).inputs, symbol_sorted.1);
            others = (symbol_sorted.2, A.others);
            room = omega (arith, A.room);
            early = omega (arith, m.2);
          }
