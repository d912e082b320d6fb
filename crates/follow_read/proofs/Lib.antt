pub mod FollowsWithin
