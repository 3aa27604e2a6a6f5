-- What the code makes of the settings: levels, and six places for them. Assumes nothing.
use Prim.Native.Nat.{ℕ, zero, suc, ◌+◌, ◌-◌, ◌*◌, ◌/◌, ◌%◌, ◌≤◌, ◌<◌}
use mathlib.Core.Path.{◌≡◌, refl, sym, ap, ◌∙◌}
use mathlib.Core.Bool.{true, false}
use mathlib.Core.List.{List, [], ◌∷◌, ◌++◌}
use native.Mathlib.Nat.{zero-mod, mod-lt, div-add-mod'}
use native.Mathlib.Omega.{arith}
use lib.Dec.{T, ltb, ltb→lt}
use lib.ListN.{length, get_or, set, replicate, length-append, length-replicate, get_or-eq_default}
use lib.Seq.{ext_get_or}
use Rattle.lists.specs.Lists.{table}
use Rattle.lists.proofs.Tables.{length-table, get_or-table}
use Rattle.patterns.specs.declared.Pattern.{Pattern}
use Rattle.patterns.specs.Patterns.{RY, pattern, tail_pattern}
use Rattle.patterns.specs.Clauses.{pattern_from}
use Rattle.component.proofs.Lengths.{RY_low}
use Rattle.partlengths.specs.Rates.{rates, table67, table68, table69, table71, vspp_rate, sdc_rates, fac_rate}
use Rattle.partlengths.specs.Formulas.{hierarchical, width, bits_a, bits_b, remainder, fac_bits}
use Rattle.partlengths.specs.Cells.{fac_cells}
use Rattle.partlengths.specs.Clauses.{share}
use Rattle.partlengths.proofs.LookUps.{all, all_at}
use Rattle.partlengths.proofs.PartA.{bits_a_exact, share_exact}
use Rattle.settings.specs.Lengths.{n_mux, n_sdc, n1, n2, l_vspp}
use Rattle.block.specs.declared.Level.{Level}
use Rattle.block.specs.declared.Block.{Block}
use Rattle.block.specs.declared.Constellation.{Constellation}
use Rattle.block.specs.declared.Constellation.TheVariants.{Qam4}
use Rattle.block.specs.Block.{no_level, six}
use Rattle.channels.specs.declared.Scheme.{Scheme}
use Rattle.channels.specs.Scheme.{SchemeAccepted}
use Rattle.channels.specs.Protected.{protected_level, protected_levels}
use Rattle.channels.specs.Msc.{vspp_level, msc_steps, msc_vspp, msc_protected, msc_levels, msc_constellation, msc_block}
use Rattle.channels.specs.Fac.{fac_level, fac_block}
use Rattle.channels.specs.Sdc.{sdc_levels, sdc_steps, sdc_constellation, sdc_block}
use Rattle.channels.specs.Clauses.{level_by}
use Rattle.channels.proofs.Protected.{protected_at, protected_length}
use Rattle.channels.proofs.Sdc.{length-levels as sdc-length}
use Rattle.channels.proofs.Msc.{cells}

-- zeros behind a list's end are what is found past it
zeros_behind : (ls : List ℕ) (n i : ℕ) → get_or (ls ++ replicate n 0) i 0 ≡ get_or ls i 0
zeros_behind [] zero i = refl
zeros_behind [] (suc n) zero = refl
zeros_behind [] (suc n) (suc i) = zeros_behind [] n i
zeros_behind (l ∷ ls) n zero = refl
zeros_behind (l ∷ ls) n (suc i) = zeros_behind ls n i

-- t of level k of an MSC mode, in places of five
pub step_at : (msc k : ℕ)
    → get_or (get_or ((0 ∷ 13 ∷ 21 ∷ 0 ∷ 0 ∷ []) ∷ (0 ∷ 13 ∷ 13 ∷ 21 ∷ 21 ∷ []) ∷ (13 ∷ 21 ∷ 0 ∷ 0 ∷ 0 ∷ []) ∷ (13 ∷ 21 ∷ 0 ∷ 0 ∷ 0 ∷ []) ∷ []) msc []) k 0 ≡ get_or (msc_steps msc) k 0
unfolding msc_steps
step_at zero k = zeros_behind (0 ∷ 13 ∷ 21 ∷ []) 2 k
step_at (suc zero) k = refl
step_at (suc (suc zero)) k = zeros_behind (13 ∷ 21 ∷ []) 3 k
step_at (suc (suc (suc zero))) k = zeros_behind (13 ∷ 21 ∷ []) 3 k
step_at (suc (suc (suc (suc msc)))) k = refl

-- every rate of the tables is one of the thirteen
pub rates-known : (msc level : ℕ) → T (all (λ r. ltb r 13) (rates msc level))
unfolding rates table67 table68 table69 table71
rates-known msc level =
    all_at (all (λ r. ltb r 13)) (get_or (table68 ∷ table71 ∷ table69 ∷ table67 ∷ []) msc []) []
    (all_at (all (all (λ r. ltb r 13))) (table68 ∷ table71 ∷ table69 ∷ table67 ∷ []) [] tt tt msc) tt level

pub rate_known : (msc level k : ℕ) → get_or (rates msc level) k 0 < 13
rate_known msc level k = ltb→lt _ 13 (all_at (λ r. ltb r 13) (rates msc level) 0 (rates-known msc level) tt k)

pub vspp_rate_known : (level : ℕ) → vspp_rate level < 13
unfolding vspp_rate
vspp_rate_known level = ltb→lt _ 13 (all_at (λ r. ltb r 13) (4 ∷ 5 ∷ 6 ∷ 7 ∷ []) 0 tt tt level)

-- the tail's remainder is a row of its table
pub tail_low : (left rate y : ℕ) → rate < 13 → y ≡ RY rate → (0 < y) × (left % y < 12)
tail_low left rate y h e =
    let low : (0 < RY rate) × (RY rate < 12) = RY_low rate h in
    let some : 0 < y = omega (arith, low) in
    let less : left % y < y = mod-lt left some in
    (some, omega (arith, low))

-- the level that the code makes of what it finds
pub made : (kept : List ℕ) (coded_a coded_b rate_a rate_b t a b y : ℕ) (p q w : Pattern) → a ≡ share coded_a rate_a → b ≡ share coded_b rate_b
    → p ≡ pattern_from (pattern kept rate_a) → q ≡ pattern_from (pattern kept rate_b) → y ≡ RY rate_b → w ≡ pattern_from (tail_pattern (coded_b % y))
    → ◌≡◌ {A = Level} (record { bitsa = a; bitsb = b; patterna = p; patternb = q; tail = w; t = t }) (level_by kept coded_a coded_b rate_a rate_b t)
unfolding level_by
made kept coded_a coded_b rate_a rate_b t a b y p q w ea eb ep eq ey ew = rw (ea, eb, ep, eq, ew, ey)

-- part A's bits are whole rounds where the rate's denominator divides N
pub bits_a-share : (w n rate : ℕ) → n % RY rate ≡ 0 → share (w * n) rate ≡ bits_a w n rate
bits_a-share w n rate e =
    let whole : n / RY rate * RY rate + n % RY rate ≡ n = div-add-mod' n (RY rate) in
    let exact : n ≡ n / RY rate * RY rate = omega arith in
    share_exact w n rate (n / RY rate) exact ∙ sym (bits_a_exact w n rate (n / RY rate) exact)

-- it is the definition's where part A has whole rounds
pub by_protected : (kept : List ℕ) (w cells1 cells2 rate_a rate_b t : ℕ) → cells1 % RY rate_a ≡ 0
    → level_by kept (w * cells1) (w * cells2 - 12) rate_a rate_b t ≡ protected_level kept w cells1 cells2 rate_a rate_b t
unfolding level_by protected_level bits_b remainder share
by_protected kept w cells1 cells2 rate_a rate_b t e =
    ap
    (λ (a : ℕ). record {
      bitsa = a;
      bitsb = bits_b w cells2 rate_b;
      patterna = pattern_from (pattern kept rate_a);
      patternb = pattern_from (pattern kept rate_b);
      tail = pattern_from (tail_pattern (remainder w cells2 rate_b));
      t = t;
    })
    (bits_a-share w cells1 rate_a e)

-- and so is that of the very strongly protected part, whose bits count with part A
pub by_vspp : (kept : List ℕ) (w n rate : ℕ) (l : Level) → l ≡ level_by kept 0 (w * n - 12) rate rate 0
    → ◌≡◌ {A = Level} (record { bitsa = l.bitsb; bitsb = 0; patterna = l.patterna; patternb = l.patternb; tail = l.tail; t = l.t }) (vspp_level kept w n rate)
unfolding level_by vspp_level bits_b remainder share
by_vspp kept w n rate l e = rw e

-- six places
pub six-table : (ls : List Level) → length ls ≤ 6 → table (λ i. get_or ls i no_level) 0 6 ≡ six ls
unfolding six
six-table ls h =
    ext_get_or no_level _ _ (length-table _ 0 6 ∙ sym (length-append ls (replicate (6 - length ls) no_level) ∙ rw length-replicate (omega arith)))
    (λ i k. get_or-table no_level (λ i. get_or ls i no_level) 6 i (rw length-table at k) ∙ sym (padded_at ls i (6 - length ls)))
  where
    padded_at : (ls : List Level) (i n : ℕ) → get_or (ls ++ replicate n no_level) i no_level ≡ get_or ls i no_level
    padded_at [] i zero = refl
    padded_at [] zero (suc n) = refl
    padded_at [] (suc i) (suc n) = padded_at [] i n
    padded_at (l ∷ ls) zero n = refl
    padded_at (l ∷ ls) (suc i) n = padded_at ls i n

-- the levels of a multiplex frame one by one
module _ (c : Scheme) where
  pub level_none : (k : ℕ) → length (rates c.settings.msc c.settings.levela) ≤ k → no_level ≡ get_or (msc_protected c) k no_level
  unfolding msc_protected
  level_none k h =
      let ls = protected_levels c.table (width c.settings.msc) (n1 c.settings) (n2 c.settings) (rates c.settings.msc c.settings.levela) (rates c.settings.msc c.settings.levelb) (msc_steps c.settings.msc) in
      sym (get_or-eq_default ls no_level {n = k} (rw protected_length h))

  pub level_some : SchemeAccepted c → (k : ℕ) (l : Level) → k < length (rates c.settings.msc c.settings.levela)
      → l ≡ level_by c.table (width c.settings.msc * n1 c.settings) (width c.settings.msc * n2 c.settings - 12) (get_or (rates c.settings.msc c.settings.levela) k 0) (get_or (rates c.settings.msc c.settings.levelb) k 0) (get_or (msc_steps c.settings.msc) k 0)
      → l ≡ get_or (msc_protected c) k no_level
  unfolding msc_protected
  level_some A k l h e =
      e ∙ by_protected c.table (width c.settings.msc) (n1 c.settings) (n2 c.settings) _ _ _ ((cells A).whole k h)
      ∙ sym (protected_at c.table (width c.settings.msc) (n1 c.settings) (n2 c.settings) (rates c.settings.msc c.settings.levela) (rates c.settings.msc c.settings.levelb) (msc_steps c.settings.msc) k no_level h)

  pub level_plain : hierarchical c.settings.msc ≡ false → (i : ℕ) → get_or (msc_protected c) i no_level ≡ get_or (msc_levels c) i no_level
  unfolding msc_levels
  level_plain h i = rw h

  pub level_front : hierarchical c.settings.msc ≡ true → msc_vspp c ≡ get_or (msc_levels c) 0 no_level
  unfolding msc_levels
  level_front h = rw h

  pub level_behind : hierarchical c.settings.msc ≡ true → (i : ℕ) → (i ≡ 0 → ⊥) → get_or (msc_protected c) (i - 1) no_level ≡ get_or (msc_levels c) i no_level
  unfolding msc_levels
  level_behind h zero p = absurd (p refl)
  level_behind h (suc i) p = let e : suc i - 1 ≡ i = omega arith in rw (h, e)

-- 4-QAM but in SDC mode 0
pub four_else : (sdc : ℕ) → (sdc ≡ 0 → ⊥) → Qam4 ≡ sdc_constellation sdc
unfolding sdc_constellation
four_else zero h = absurd (h refl)
four_else (suc zero) h = refl
four_else (suc (suc sdc)) h = refl

-- a level with no cells of part A
pub by_none : (kept : List ℕ) (n rate t : ℕ) → level_by kept 0 (2 * n - 12) rate rate t ≡ protected_level kept 2 0 n rate rate t
by_none kept n rate t = by_protected kept 2 0 n rate rate t (zero-mod (RY rate))

-- the places of an SDC block: two levels in 16-QAM, one in 4-QAM
pub sdc-two : (kept : List ℕ) (sdc n : ℕ) (none : List Level) (a b : Level) → sdc ≡ 0 → none ≡ replicate 6 no_level
    → a ≡ level_by kept 0 (2 * n - 12) 2 2 13 → b ≡ level_by kept 0 (2 * n - 12) 7 7 21
    → set (set none 0 a) 1 b ≡ six (protected_levels kept 2 0 n (sdc_rates sdc) (sdc_rates sdc) (sdc_steps sdc))
unfolding protected_levels sdc_rates sdc_steps six
sdc-two kept sdc n none a b z e ea eb = rw (e, z, ea, eb, by_none kept n 2 13, by_none kept n 7 21)

pub sdc-one : (kept : List ℕ) (sdc n : ℕ) (none : List Level) (a : Level) → sdc ≡ 1 → none ≡ replicate 6 no_level → a ≡ level_by kept 0 (2 * n - 12) 4 4 21
    → set none 0 a ≡ six (protected_levels kept 2 0 n (sdc_rates sdc) (sdc_rates sdc) (sdc_steps sdc))
unfolding protected_levels sdc_rates sdc_steps six
sdc-one kept sdc n none a z e ea = rw (e, z, ea, by_none kept n 4 21)

-- the blocks
sdc-count : (sdc : ℕ) → sdc ≤ 1 → 2 - sdc ≡ length (sdc_rates sdc)
unfolding sdc_rates
sdc-count zero h = refl
sdc-count (suc zero) h = refl
sdc-count (suc (suc sdc)) h = absurd (omega arith)

pub sdc-made : (c : Scheme) (n count : ℕ) (k : Constellation) (ls : List Level) → c.settings.sdc ≤ 1 → n ≡ n_sdc c.settings → ls ≡ six (sdc_levels c) → count ≡ 2 - c.settings.sdc → k ≡ sdc_constellation c.settings.sdc
    → ◌≡◌ {A = Block} (record { vspp = 0; levels = ls; count = count; constellation = k; cells = n; parta = 0 }) (sdc_block c)
unfolding sdc_block
sdc-made c n count k ls h en el ec ek =
    let e : count ≡ length (sdc_levels c) = ec ∙ sdc-count c.settings.sdc h ∙ sym (sdc-length c) in
    λ i. record { vspp = 0; levels = el i; count = e i; constellation = ek i; cells = en i; parta = 0 }

pub fac-made : (c : Scheme) (none : List Level) (p : Pattern) → none ≡ replicate 6 no_level → p ≡ pattern_from (pattern c.table 6)
    → ◌≡◌ {A = Block} (record { vspp = 0; levels = set none 0 (record { bitsa = 0; bitsb = 72; patterna = p; patternb = p; tail = p; t = 21 }); count = 1; constellation = Qam4; cells = 65; parta = 0 }) (fac_block c)
unfolding fac_block fac_level fac_rate fac_bits fac_cells six
fac-made c none p e ep = rw (e, ep)

pub msc-made : (c : Scheme) (v n n1' count : ℕ) (k : Constellation) (ls : List Level) → n ≡ n_mux c.settings → v ≡ l_vspp c.settings → ls ≡ six (msc_levels c) → count ≡ length (msc_levels c)
    → k ≡ msc_constellation c.settings.msc → n1' ≡ n1 c.settings
    → ◌≡◌ {A = Block} (record { vspp = v; levels = ls; count = count; constellation = k; cells = n; parta = n1' }) (msc_block c)
unfolding msc_block
msc-made c v n n1' count k ls en ev el e ek e1 =
    λ i. record { vspp = ev i; levels = el i; count = e i; constellation = ek i; cells = en i; parta = e1 i }
