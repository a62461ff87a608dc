use Rattle.std.proofs.Common.{inr, ap, Err, subst, sym}
use Rattle.nfs_engine.specs.Book.{BookValue}
use Rattle.nfs_engine.specs.Opening.{IsLimit, Opens}
use Rattle.nfs_engine.specs.declared.opening.Config.{Config}
use Rattle.nfs_streams.specs.declared.serving.StreamFault.{StreamFault}
use Rattle.nfs_server.proofs.StartLemmas.{opens_standing, opens_within}
use Rattle.nfs_server.proofs.started.serve_options.Goals as goal

pub open-requires-clause-capacity : goal.open-requires-clause-capacity
open-requires-clause-capacity g c =
    subst (λ (config : Config). IsLimit config.capacity) (sym c.config_of-config.ensures.config) c.requires.capacity

pub open-requires-clause-era : goal.open-requires-clause-era
open-requires-clause-era g c =
    subst (λ (config : Config). IsLimit config.era_records) (sym c.config_of-config.ensures.config) c.requires.era

pub returns-in-Ok-clause-ok : goal.returns-in-Ok-clause-ok
returns-in-Ok-clause-ok g c =
    let opens =
    subst (λ (config : Config). Opens config c.in_ok-engine.engine.book) c.config_of-config.ensures.config
    c.in_ok-engine.ensures.opens in
    λ input is. record {
      moment = c.moment-moment.result;
      started = c.moment-moment.new.self;
      opened = c.in_ok-engine.engine;
      ended = c.serve_with-served.new.engine;
      ticked = c.moment-moment.ensures;
      under = ap (λ (b : BookValue). b.setting) opens.is;
      stands = opens_standing _ c.in_ok-engine.engine opens;
      on = rw c.config_of-config.ensures.host at (c.in-Ok.ensures.ok input is);
      era = opens_within _ _ _ opens c.serve_with-served.ensures.keeps;
    }

pub returns-in-Err-clause-fault : goal.returns-in-Err-clause-fault
returns-in-Err-clause-fault g c =
    let opens =
    subst (λ (config : Config). Opens config c.in_ok-engine.engine.book) c.config_of-config.ensures.config
    c.in_ok-engine.ensures.opens in
    inr (
      c.in-Err.fault,
      c.of.ensures,
      (
        λ is. c.in-Err.ensures.read (ap (λ (e : StreamFault). Err e) is),
        λ is. c.in-Err.ensures.write (ap (λ (e : StreamFault). Err e) is),
      ),
      λ input is. record {
        moment = c.moment-moment.result;
        started = c.moment-moment.new.self;
        opened = c.in_ok-engine.engine;
        ended = c.serve_with-served.new.engine;
        ticked = c.moment-moment.ensures;
        under = ap (λ (b : BookValue). b.setting) opens.is;
        stands = opens_standing _ c.in_ok-engine.engine opens;
        on = rw c.config_of-config.ensures.host at (c.in-Err.ensures.fault input is);
        era = opens_within _ _ _ opens c.serve_with-served.ensures.keeps;
      },
    )
