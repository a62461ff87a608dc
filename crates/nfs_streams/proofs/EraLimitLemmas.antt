-- What the server was started with stays, and no era gets more records than it may have.
use Rattle.std.proofs.Common.{◌≡◌, ◌+◌, ◌≤◌, [], ◌∷◌, ◌++◌, length, length-append, inl, inr, refl, ◌∙◌, ap, arith}
use Rattle.std.proofs.lemmas.Bool.{or_parts}
use Rattle.std.proofs.lemmas.Bool.Decides.{nat_tests}
use Rattle.std.specs.Prelude.{nat_le}
use Rattle.nfs_machine.specs.Run.{Record}
use Rattle.nfs_engine.specs.Engine.{EngineValue}
use Rattle.nfs_streams.specs.Served.{HasEraRoom, IsWithinEra, KeepsSetting}

pub keeps_none : (e : EngineValue) → KeepsSetting e e
keeps_none e = record { setting = refl; era_records = refl; era = λ within. within }

pub keeps_join : (e f g : EngineValue) → KeepsSetting e f → KeepsSetting f g → KeepsSetting e g
keeps_join e f g a b = record {
  setting = b.setting ∙ a.setting;
  era_records = b.era_records ∙ a.era_records;
  era = λ within. b.era (a.era within);
}

-- the era may have as many records as before, and has no more of them
within_fewer : (e f : EngineValue) → f.book.era_records ≡ e.book.era_records →
    length f.book.records ≤ length e.book.records → IsWithinEra e → IsWithinEra f
within_fewer e f limit fewer within = record {
  some = omega (arith, within.some, limit);
  most = omega (arith, within.most, limit, fewer);
}

-- the records stay
pub keeps_records : (e f : EngineValue) → f.book.setting ≡ e.book.setting →
    f.book.era_records ≡ e.book.era_records → f.book.records ≡ e.book.records → KeepsSetting e f
keeps_records e f setting limit same = record {
  setting = setting;
  era_records = limit;
  era = within_fewer e f limit (omega (arith, ap length same));
}

pub keeps_same : (e f : EngineValue) → f ≡ e → KeepsSetting e f
keeps_same e f same =
    keeps_records e f (ap (λ (x : EngineValue). x.book.setting) same)
    (ap (λ (x : EngineValue). x.book.era_records) same) (ap (λ (x : EngineValue). x.book.records) same)

-- where there is room for a record, there are fewer than there may be
has_room : (e : EngineValue) → HasEraRoom e → IsWithinEra e → length e.book.records + 1 ≤ e.book.era_records
has_room e (inl free) within =
    let below = (or_parts (nat_le e.book.era_records (length e.book.records)) (nat_le 67108864 e.book.bytes) free).0 in
    grind (arith, nat_tests)
has_room e (inr none) within = omega (arith, within.some, ap length none)

-- one record more, where there was room
pub keeps_one : (e f : EngineValue) (more : Record) → f.book.setting ≡ e.book.setting →
    f.book.era_records ≡ e.book.era_records → f.book.records ≡ e.book.records ++ more ∷ [] → HasEraRoom e →
    KeepsSetting e f
keeps_one e f more setting limit records room = record {
  setting = setting;
  era_records = limit;
  era = λ within. record {
    some = omega (arith, within.some, limit);
    most = omega (arith, has_room e room within, limit, ap length records, length-append e.book.records (more ∷ []));
  };
}
