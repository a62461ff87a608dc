use Rattle.nfs_streams.proofs.connection.Connection.take_in.Goals as goal

pub returns-clause-ok : goal.returns-clause-ok
returns-clause-ok c = rw (← c.self.view_is) c.feed.ensures.ok

pub returns-clause-too_large : goal.returns-clause-too_large
returns-clause-too_large c = rw (← c.self.view_is) c.feed.ensures.too_large
