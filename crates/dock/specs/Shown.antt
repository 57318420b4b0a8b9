-- What showing the goals promises, and the laws of its parts.
use Rattle.std.specs.Prelude.{Ok, Err}
use Rattle.std.specs.Prelude.{◌≡◌, List, ℕ, ◌<◌, length, get_or}
use Rattle.std.proofs.Common.{sym, subst}
use Rattle.std.proofs.Math.Option.{some}
use Rattle.definition.specs.Answer.{answer}
use Rattle.definition.specs.Calls.{Left, no_figures, answered, refused, cert_show}
use Rattle.definition.specs.declared.Answer.{Answer}
use Rattle.definition.specs.declared.Figures.{Figures}
use Rattle.definition.specs.declared.Refusal.{Refusal}
use Rattle.buffer.specs.Zero.{zeroed}
use Rattle.theory.specs.Principal.{DemandThreeShown}
use Rattle.theory.proofs.DemandThree.{demand_three_shown}
use Rattle.pack_reader.specs.Sound.{bytes-all}
use Rattle.text_goals.specs.declared.goal.Budgets.{Budgets}
use Rattle.dock.specs.declared.show.ShowAnswer.{ShowAnswer}
use Rattle.dock.specs.Classes.{padded_is, padded_zero}
use Rattle.dock.specs.ComesShown.{Comes}

-- what a call returns and leaves, as the definition has it
abbrev pub left_of : ShowAnswer → List ℕ → List ℕ → List ℕ → List ℕ → List ℕ → Left
left_of r class pattern graph work text = record {
  returned = record { code = r.code; place = r.place };
  figures = r.figures;
  text_length = r.text_len;
  class = class;
  pattern = pattern;
  graph = graph;
  work = work;
  text = text;
}

-- the answer of a call that is done, and of one that is refused
abbrev pub done_with : ℕ → Figures → ShowAnswer
done_with k f = record { code = 0; place = 0; text_len = k; figures = f }

abbrev pub refused_with : Answer → Figures → ShowAnswer
refused_with a f = record { code = a.code; place = a.place; text_len = 0; figures = f }

-- what is left is what the definition says
module _ (bytes class pattern graph work text class' pattern' graph' work' text' : List ℕ) (b : Budgets) (c-long : length class' ≡ length class) (p-long : length pattern' ≡ length pattern) (g-long : length graph' ≡ length graph)
    (w-long : length work' ≡ length work) (t-long : length text' ≡ length text) where
  left-done : (n m k : ℕ) (f : Figures) → Comes bytes class pattern graph work text class' pattern' text' b (Ok (n, m, k, f))
      → left_of (done_with k f) (zeroed n class') (zeroed m pattern') (zeroed 0 graph') (zeroed 0 work') (zeroed k text') ≡ cert_show bytes b.form b.value (length class) (length pattern) (length graph) (length work) (length text)
  unfolding cert_show answered answer
  left-done n m k f C =
      let H = C.2 in
      rw (C.1, cert_show, answered, padded_is n class' _ (length class) c-long H.classes H.classes_fit, padded_is m pattern' _ (length pattern) p-long H.patterns H.patterns_fit, padded_zero graph' (length graph) g-long, padded_zero work' (length work) w-long, padded_is k text' _ (length text) t-long H.bytes H.bytes_fit, H.counted, ← H.long)

  left-refused : (r : Refusal) (a : Answer) (g : Figures) → Comes bytes class pattern graph work text class' pattern' text' b (Err r) → a ≡ answer (some r) → g ≡ no_figures
      → left_of (refused_with a g) (zeroed 0 class') (zeroed 0 pattern') (zeroed 0 graph') (zeroed 0 work') (zeroed 0 text') ≡ cert_show bytes b.form b.value (length class) (length pattern) (length graph) (length work) (length text)
  unfolding cert_show refused answer
  left-refused r a g C e h =
      rw (C, cert_show, refused, padded_zero class' (length class) c-long, padded_zero pattern' (length pattern) p-long, padded_zero graph' (length graph) g-long, padded_zero work' (length work) w-long, padded_zero text' (length text) t-long, h, e)

  -- both clauses, of what stands there in the end
  module _ (class'' pattern'' graph'' work'' text'' : List ℕ) (n m k : ℕ) (zc : class'' ≡ zeroed n class') (zp : pattern'' ≡ zeroed m pattern') (zg : graph'' ≡ zeroed 0 graph') (zw : work'' ≡ zeroed 0 work') (zt : text'' ≡ zeroed k text')
      (bytes-are : (i : ℕ) → get_or bytes i 0 < 256) where
    -- of an answer
    abbrev Promised : ShowAnswer → Type 0
    Promised r =
        (left_of r class'' pattern'' graph'' work'' text'' ≡ cert_show bytes b.form b.value (length class) (length pattern) (length graph) (length work) (length text))
        × DemandThreeShown bytes b.form b.value (length class) (length pattern) (length graph) (length work) (length text) (left_of r class'' pattern'' graph'' work'' text'')

    promised : (r : ShowAnswer) → left_of r (zeroed n class') (zeroed m pattern') (zeroed 0 graph') (zeroed 0 work') (zeroed k text') ≡ cert_show bytes b.form b.value (length class) (length pattern) (length graph) (length work) (length text) → Promised r
    promised r e =
        let q : left_of r class'' pattern'' graph'' work'' text'' ≡ cert_show bytes b.form b.value (length class) (length pattern) (length graph) (length work) (length text) = rw (zc, zp, zg, zw, zt) e in
        (q, subst (DemandThreeShown bytes b.form b.value (length class) (length pattern) (length graph) (length work) (length text)) (sym q) (demand_three_shown bytes (bytes-all bytes bytes-are) b.form b.value (length class) (length pattern) (length graph) (length work) (length text)))

    pub promised_done : (f : Figures) → Comes bytes class pattern graph work text class' pattern' text' b (Ok (n, m, k, f)) → Promised (done_with k f)
    promised_done f C = promised (done_with k f) (left-done n m k f C)

    pub promised_refused : n ≡ 0 → m ≡ 0 → k ≡ 0 → (r : Refusal) (a : Answer) (g : Figures) → Comes bytes class pattern graph work text class' pattern' text' b (Err r) → a ≡ answer (some r) → g ≡ no_figures → Promised (refused_with a g)
    promised_refused x y z r a g C e h = promised (refused_with a g) (rw (x, y, z) (left-refused r a g C e h))
