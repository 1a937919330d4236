-- The laws that a play cites: of configurations, of frames and of interfaces.
use Rattle.conf_laws.specs.Laws.{ConfigurationsFit}
use Rattle.frame_classes.specs.Laws.{FramesHaveQueues}
use Rattle.interface_policy.specs.Laws.{PlaysKeepPromises, PoliciesAreLawful, QueueClassesAreHeld, QueueClassesAreNamed}

pub record HaveLaws : Type 0 where
  pub fit : ConfigurationsFit
  pub queues : FramesHaveQueues
  pub lawful : PoliciesAreLawful
  pub held : QueueClassesAreHeld
  pub named : QueueClassesAreNamed
  pub promises : PlaysKeepPromises
