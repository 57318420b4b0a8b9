-- What reading a word comes to: a symbol is opened, or a variable's value is given.
use Rattle.std.specs.Prelude.{Option as Optional, Some, None}
use Rattle.std.specs.Prelude.{◌≡◌, refl, List, [], ◌∷◌, ℕ, ◌+◌, ◌-◌, ◌≤◌, ◌<◌, get_or}
use Rattle.std.proofs.Common.{sym, ◌∙◌, arith}
use Rattle.std.proofs.Math.Path.{ap, subst}
use Rattle.std.proofs.Math.ListN.{length}
use Rattle.definition.specs.Pack.{Terms, var, app, nil, cons, Pack, symbol_of, rule_of}
use Rattle.definition.specs.Theory.{variable}
use Rattle.definition.specs.Certificate.{count}
use Rattle.definition.specs.Verdict.{Bound, value_of}
use Rattle.pack_read.specs.Reads.{rule_words}
use Rattle.pack_read.specs.Held.{Proper}
use Rattle.emit_maps.specs.Map.{told, told_more, Mapped}
use Rattle.emit_premises.specs.Open.{Opened, giving, whole-value, whole-nothing, whole_open}
use Rattle.emit_premises.specs.Frames.{opening, opened}
use Rattle.emit_premises.specs.Amid.{Amid, wants, room_there, variable-cut, variable_sorted, variable-given, symbol-cut, symbol_sorted, symbol-opened}
use Rattle.store.specs.Stored.{Stored, nodes}
use Rattle.emit_premises.specs.Turned.{Goes, Valued, Keeps, StoredBy}
use Rattle.emit_premises.specs.declared.building.Building.{Building}
use Rattle.emit_premises.specs.declared.turn.Turn.{Turn}
use Rattle.emit_premises.specs.declared.turn.Turn.TheVariants.{Next, Full, Lacks}

module _ (P : Pack) (Q : Proper P) (r : ℕ) (l : r < length P.rules) (stack : List ℕ) (long : length stack ≡ 771) (b : Building) (w : ℕ) (word : w ≡ get_or (rule_words (rule_of P r)) b.next 0) where
  -- ---- a symbol
  module _ (low : w < variable) where
    -- it is one of the pack
    below : (h : ℕ) (got : List ℕ) (left : Terms) (fs : List Opened) → Amid P r stack b (record { head = h; given = got; left = left }) fs → (count left ≡ 0 → ⊥) → w < length P.symbols
    unfolding count
    below h got nil fs A more = absurd (more refl)
    below h got (cons (var k) ts) fs A more = absurd (omega (arith, (variable-cut P Q r l stack long b h got fs w word k ts A).0))
    below h got (cons (app g us) ts) fs A more = omega (arith, (symbol-cut P Q r l stack long b h got fs w word g us ts A).0, (symbol_sorted P Q r l stack long b h got fs w word g us ts A).0)

    -- it is opened
    opens : (h : ℕ) (got : List ℕ) (left : Terms) (fs : List Opened) → Amid P r stack b (record { head = h; given = got; left = left }) fs → (count left ≡ 0 → ⊥)
        → (arity : ℕ) → arity ≡ length (symbol_of P w).inputs → (bs : List Bound) (words : List ℕ) → Goes P r bs words words stack (opening stack b.base b.top w arity) b (record { head = h; given = got; left = left }) fs (Some (Next (opened b)))
    unfolding count
    opens h got nil fs A more arity e bs words = absurd (more refl)
    opens h got (cons (var k) ts) fs A more arity e bs words = absurd (omega (arith, (variable-cut P Q r l stack long b h got fs w word k ts A).0))
    opens h got (cons (app g us) ts) fs A more arity e bs words =
        let q : w ≡ g = (symbol-cut P Q r l stack long b h got fs w word g us ts A).0 in
        let m = room_there P Q r l stack long b (record { head = h; given = got; left = cons (app g us) ts }) fs A in (
          record { head = g; given = []; left = us },
          record { head = h; given = got; left = ts } ∷ fs,
          subst (λ (x : ℕ). Amid P r (opening stack b.base b.top x arity) (opened b) (record { head = g; given = []; left = us }) (record { head = h; given = got; left = ts } ∷ fs)) (sym q)
              (symbol-opened P Q r l stack long b h got fs w word g us ts A arity (e ∙ ap (λ (x : ℕ). length (symbol_of P x).inputs) q)),
          whole_open h got ts fs bs g us (nodes words b.store),
          omega (arith, m.2),
        )

  -- ---- a variable
  module _ (high : variable ≤ w) where
    -- it has a place among the values
    few : (h : ℕ) (got : List ℕ) (left : Terms) (fs : List Opened) → Amid P r stack b (record { head = h; given = got; left = left }) fs → (count left ≡ 0 → ⊥) → w - variable < 64
    unfolding count
    few h got nil fs A more = absurd (more refl)
    few h got (cons (var k) ts) fs A more =
        omega (arith, (variable-cut P Q r l stack long b h got fs w word k ts A).0, (variable_sorted P Q r l stack long b h got fs w word k ts A).0, (Q.good.rules r l).variables)
    few h got (cons (app g us) ts) fs A more = absurd (omega (arith, (symbol-cut P Q r l stack long b h got fs w word g us ts A).0, (symbol_sorted P Q r l stack long b h got fs w word g us ts A).0, Q.few.symbols, high))

    module _ (work : List ℕ) (at : ℕ) (bs : List Bound) (M : Mapped work at 64 bs) (words stack' : List ℕ) (h : ℕ) (got : List ℕ) (k : ℕ) (ts : Terms) (fs : List Opened) (A : Amid P r stack b (record { head = h; given = got; left = cons (var k) ts }) fs) where
      -- the word there says its value
      says : value_of k bs ≡ told (get_or work (at + (w - variable)) 0)
      says =
          let q = (variable-cut P Q r l stack long b h got fs w word k ts A).0 in
          let e : k ≡ w - variable = omega (arith, q) in
          M.values k (omega (arith, (variable_sorted P Q r l stack long b h got fs w word k ts A).0, (Q.good.rules r l).variables)) ∙ ap (λ (x : ℕ). told (get_or work (at + x) 0)) e

      -- its value is given, or it has none
      valued : (t : Optional Turn) → Valued work stack stack' at b (w - variable) t → Goes P r bs words words stack stack' b (record { head = h; given = got; left = cons (var k) ts }) fs t
      unfolding told
      valued (Some (Next b')) K =
          let m = room_there P Q r l stack long b (record { head = h; given = got; left = cons (var k) ts }) fs A in
          rw (K.2, K.3) (
            giving K.0 (record { head = h; given = got; left = ts }),
            fs,
            variable-given P Q r l stack long b h got fs w word k ts A K.0,
            whole-value h got ts fs bs k K.0 (nodes words b.store) (says ∙ told_more (get_or work (at + (w - variable)) 0) K.0 K.1),
            omega (arith, m.2),
          )
      valued (Some Full) K = absurd K
      valued (Some Lacks) K = whole-nothing h got ts fs bs k (nodes words b.store) (says ∙ ap told K)
      valued None K = absurd K

    -- the same whatever terms are left
    gives : (work : List ℕ) (at : ℕ) (bs : List Bound) → Mapped work at 64 bs → (words stack' : List ℕ) (t : Optional Turn) → Valued work stack stack' at b (w - variable) t
        → (h : ℕ) (got : List ℕ) (left : Terms) (fs : List Opened) → Amid P r stack b (record { head = h; given = got; left = left }) fs → (count left ≡ 0 → ⊥) → Goes P r bs words words stack stack' b (record { head = h; given = got; left = left }) fs t
    unfolding count
    gives work at bs M words stack' t K h got nil fs A more = absurd (more refl)
    gives work at bs M words stack' t K h got (cons (var k) ts) fs A more = valued work at bs M words stack' h got k ts fs A t K
    gives work at bs M words stack' t K h got (cons (app g us) ts) fs A more = absurd (omega (arith, (symbol-cut P Q r l stack long b h got fs w word g us ts A).0, (symbol_sorted P Q r l stack long b h got fs w word g us ts A).0, Q.few.symbols, high))

  -- ---- the same of whatever symbol is the innermost, unless all its terms are built
  module _ (f : Opened) (fs : List Opened) (A : Amid P r stack b f fs) (wanting : get_or stack (b.base + 1) 0 ≡ b.top → ⊥) where
    -- a term is left
    lacks : count f.left ≡ 0 → ⊥
    lacks = wants stack f b.base b.top A.frame wanting

    -- a symbol is one of the pack
    pub symbol-below : w < variable → w < length P.symbols
    symbol-below low = below low f.head f.given f.left fs A lacks

    -- it is opened
    pub symbol_goes : w < variable → (arity : ℕ) → arity ≡ length (symbol_of P w).inputs → (bs : List Bound) (words : List ℕ) → Goes P r bs words words stack (opening stack b.base b.top w arity) b f fs (Some (Next (opened b)))
    symbol_goes low = opens low f.head f.given f.left fs A lacks

    -- a variable has a place among the values
    pub variable-below : variable ≤ w → w - variable < 64
    variable-below high = few high f.head f.given f.left fs A lacks

    -- its value is given, or it has none
    pub variable_goes : variable ≤ w → (work : List ℕ) (at : ℕ) (bs : List Bound) → Mapped work at 64 bs → (words stack' : List ℕ) (t : Optional Turn) → Valued work stack stack' at b (w - variable) t → Goes P r bs words words stack stack' b f fs t
    variable_goes high work at bs M words stack' t K = gives high work at bs M words stack' t K f.head f.given f.left fs A lacks

-- a value that is given makes no pattern
pub valued_keeps : (work stack stack' : List ℕ) (at : ℕ) (b : Building) (k : ℕ) (t : Optional Turn) → Valued work stack stack' at b k t → Keeps b t
valued_keeps work stack stack' at b k (Some (Next b')) K = ap (λ (x : Building). x.store) K.3
valued_keeps work stack stack' at b k (Some Full) K = K
valued_keeps work stack stack' at b k (Some Lacks) K = tt
valued_keeps work stack stack' at b k None K = K

-- where none is made, they are in the store as they were
pub kept-stored : (index words : List ℕ) (b : Building) (t : Optional Turn) → Keeps b t → Stored index words b.store → StoredBy index words b t
kept-stored index words b (Some (Next b')) K S = rw K S
kept-stored index words b (Some Full) K S = S
kept-stored index words b (Some Lacks) K S = S
kept-stored index words b None K S = tt
