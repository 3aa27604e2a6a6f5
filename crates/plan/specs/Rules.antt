-- A week plan, its rules, and the settings in force in a super frame. 02, S-12.
use Rattle.std.specs.Prelude.{ℕ, suc, ◌+◌, ◌-◌, ◌*◌, ◌/◌, ◌%◌, Bool, cond, not, ◌&&◌, ◌||◌, List, [], ◌∷◌, length, get_or, drop, eqb, ltb, leb}
use Rattle.lists.specs.Lists.{table}
use Rattle.settings.specs.declared.Settings.{Settings}
use Rattle.settingbytes.specs.Bytes.{word, settings_of}
use Rattle.plan.specs.declared.Rule.{Rule}

-- A plan has at most 64 rules. A week has 10,080 minutes, a minute 50 super frames.
abbrev pub most_rules : ℕ
most_rules = 64

abbrev pub week_minutes : ℕ
week_minutes = 10080

abbrev pub minute_frames : ℕ
minute_frames = 50

abbrev pub week_frames : ℕ
week_frames = 504000

-- A rule is fourteen bytes: first minute, minute after the last, each two bytes, high byte first, and settings.
abbrev pub rule_bytes : ℕ
rule_bytes = 14

unfoldable pub rule_of : List ℕ → Rule
rule_of bytes =
    record {
      first = word (get_or bytes 0 0) (get_or bytes 1 0);
      after = word (get_or bytes 2 0) (get_or bytes 3 0);
      settings = settings_of (drop 4 bytes);
    }

-- The rules of a plan's bytes.
unfoldable pub rules_of : List ℕ → List Rule
rules_of bytes = table (λ k. rule_of (drop (rule_bytes * k) bytes)) 0 (length bytes / rule_bytes)

-- A rule has the minutes from its first to the one before its `after`.
unfoldable pub has : Rule → ℕ → Bool
has r minute = leb r.first minute && ltb minute r.after

-- How many rules of a plan have a minute.
unfoldable pub rules_with : List Rule → ℕ → ℕ
rules_with [] minute = 0
rules_with (r ∷ plan) minute = cond (has r minute) (suc (rules_with plan minute)) (rules_with plan minute)

-- The place in the list, from 0, of the first rule that has a minute; past the last where none has it.
unfoldable pub place_of : List Rule → ℕ → ℕ
place_of [] minute = 0
place_of (r ∷ plan) minute = cond (has r minute) 0 (suc (place_of plan minute))

-- The minute of super frame t; the week begins again after its last one.
unfoldable pub minute_of : ℕ → ℕ
minute_of t = t % week_frames / minute_frames

-- The settings in force in super frame t: those of the rule that has its minute.
unfoldable pub no_rule : Rule
no_rule = rule_of []

unfoldable pub settings_at : List Rule → ℕ → Settings
settings_at plan t = (get_or plan (place_of plan (minute_of t)) no_rule).settings

-- Settings are equal if all nine numbers are.
unfoldable pub same_settings : Settings → Settings → Bool
same_settings a b =
    eqb a.mode b.mode
    && (eqb a.occupancy b.occupancy
    && (eqb a.msc b.msc
    && (eqb a.levela b.levela
    && (eqb a.levelb b.levelb
    && (eqb a.vspp b.vspp
    && (eqb a.x b.x && (eqb a.sdc b.sdc && eqb a.interleaving b.interleaving)))))))

unfoldable pub changes : List Rule → ℕ → ℕ → Bool
changes plan t u = not (same_settings (settings_at plan t) (settings_at plan u))

-- The mark of super frame t: 1 for the last two before unequal settings, 2 for the first with them, else 0.
-- The super frame before t is that one a week later.
unfoldable pub mark_of : List Rule → ℕ → ℕ
mark_of plan t =
    cond (changes plan t (t + 1) || changes plan t (t + 2)) 1
    (cond (changes plan t (t + (week_frames - 1))) 2 0)
