use Rattle.std.proofs.Common.{◌∙◌, ap, option_map, unwrap_or, Option}
use Rattle.nfs_tables.specs.Tables.{entries}
use Rattle.nfs_engine.proofs.StoreWriteLemmas.{kept-lookup}
use Rattle.nfs_engine.specs.Tables.{KeptValue, ObjectsValue, empty_kept, kept_at, kept_value}
use Rattle.nfs_engine.specs.declared.objects.StoredObject.{StoredObject}
use Rattle.nfs_engine.proofs.objects.Objects.last.Goals as goal

pub returns-in-Some : goal.returns-in-Some
returns-in-Some c =
    ap (λ (o : Option StoredObject). (unwrap_or (option_map kept_value o) empty_kept).last) c.in-Some.ensures.value
    ∙ ap (λ (k : KeptValue). k.last) (kept-lookup c.args.address (entries c.self.inside.slots))
    ∙ ap (λ (t : ObjectsValue). (kept_at t.slots c.args.address).last) c.self.view_is

pub returns-in-None : goal.returns-in-None
returns-in-None c =
    ap (λ (o : Option StoredObject). (unwrap_or (option_map kept_value o) empty_kept).last) c.in-None.ensures.value
    ∙ ap (λ (k : KeptValue). k.last) (kept-lookup c.args.address (entries c.self.inside.slots))
    ∙ ap (λ (t : ObjectsValue). (kept_at t.slots c.args.address).last) c.self.view_is
